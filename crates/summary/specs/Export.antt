-- The spreadsheet's row, for which document 01, "The log and its report", gives the summary record. Assumes nothing.
use Rattle.std.specs.Prelude.{ℕ, zero, suc, ◌+◌, ◌*◌, ◌/◌, ◌%◌, Bool, cond, ◌&&◌, List, [], ◌∷◌, ◌++◌, eqb, Float}
use Rattle.std.specs.Bool.{beq}
use Rattle.std.specs.Float.{binary64}
use Rattle.std.specs.Float.Ieee.{to_bits}
use Rattle.std.specs.Float.Ieee.Positive.{num, den}
use Rattle.answers.specs.Numbers.{paper}
use Rattle.answers.specs.Rules.{unless}
use Rattle.text.specs.Ascii.{ascii, byte, tab, line_feed}
use Rattle.logs.specs.declared.Counts.{Counts}
use Rattle.logs.specs.declared.LogRead.{LogRead}
use Rattle.logs.specs.Decimal.{decimal}
use Rattle.logs.specs.Log.{is_counts}
use Rattle.summary.specs.declared.Summary.{Summary}
use Rattle.summary.specs.Summary.{summary_of}
use Rattle.summary.specs.Report.{ended, frequency, ToldText, not_delivered, delivered, or_refusal}

-- the decimals of r / d by long division, until nothing is left of r, and at most so many
unfoldable pub decimals : ℕ → ℕ → ℕ → List ℕ
decimals zero r d = []
decimals (suc more) r d = cond (eqb r 0) [] ((byte "0" + 10 * r / d) ∷ decimals more (10 * r % d) d)

-- a / c in full: no exponent, no zeros at the end, and no point where there is no fraction; a binary64 has at most 1,074 decimals
unfoldable pub expansion : ℕ → ℕ → List ℕ
expansion a c = decimal (a / c) ++ cond (eqb (a % c) 0) [] (byte "." ∷ decimals 1074 (a % c) c)

-- what exists is written exactly, as the fraction `num` / `den` that it is; what does not exist is an empty cell
unfoldable pub cell : Bool → Float → List ℕ
cell exists x = cond exists (expansion (num x) (den x)) []

-- channel, kilohertz, the seven counts, the mean and the missing share, parted by tabs and ended by a line feed
unfoldable pub sheet_row : Counts → Summary → List ℕ
sheet_row counts summary =
    ended (decimal counts.channel) tab
    ++ (ended (decimal (frequency counts)) tab
    ++ (ended (decimal counts.slots) tab
    ++ (ended (decimal counts.read) tab
    ++ (ended (decimal counts.clean) tab
    ++ (ended (decimal counts.bits) tab
    ++ (ended (decimal counts.noword) tab
    ++ (ended (decimal counts.check) tab
    ++ (ended (decimal counts.missing) tab
    ++ (ended (cell summary.mean_exists summary.mean) tab
    ++ ended (cell summary.missing_exists summary.missing) line_feed)))))))))

-- bit for bit
abbrev pub same_bits : Float → Float → Bool
same_bits x y = eqb (to_bits binary64 x) (to_bits binary64 y)

unfoldable pub is_summary : Summary → Summary → Bool
is_summary s t =
    beq s.mean_exists t.mean_exists
    && same_bits s.mean t.mean
    && beq s.missing_exists t.missing_exists
    && same_bits s.missing t.missing

-- 11 for counts that no accepted log gives, and for a record that is not their summary
unfoldable pub exported_of : Counts → Summary → List ℕ → ToldText
exported_of counts summary out =
    unless (is_counts counts) (not_delivered 11 out)
    (unless (is_summary summary (summary_of counts)) (not_delivered 11 out)
    (delivered (sheet_row counts summary) out))

-- the names of the row's fields, in a line of their own
unfoldable pub sheet_names : List ℕ
sheet_names = ascii "channel\tkhz\tslots\tread\tclean\tbits\tnoword\tcheck\tmissing\tmean\tmissing share\n"

-- the names and the row, with the summary that the counts have
unfoldable pub sheet_of : Counts → List ℕ → ToldText
sheet_of counts out = unless (is_counts counts) (not_delivered 11 out) (delivered (sheet_names ++ sheet_row counts (summary_of counts)) out)

unfoldable pub export_log_of : LogRead → List ℕ → ToldText
export_log_of log out = or_refusal (paper log.answer) log.line out (sheet_of log.counts out)
