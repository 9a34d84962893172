-- Document 01, "The log and its report": the report's nine lines. Assumes nothing.
use Rattle.std.specs.Prelude.{ℕ, ◌*◌, ◌/◌, cond, List, [], ◌∷◌, ◌++◌, length, drop, leb, eqb, Result, Ok, Err}
use Rattle.answers.specs.declared.Refusal.{Refusal}
use Rattle.answers.specs.Numbers.{Paper, accepted, refused, number_of, paper}
use Rattle.answers.specs.Rules.{unless}
use Rattle.band.specs.Band.{kilohertz_of}
use Rattle.text.specs.Ascii.{ascii, tab, line_feed}
use Rattle.logs.specs.declared.Counts.{Counts}
use Rattle.logs.specs.declared.LogRead.{LogRead}
use Rattle.logs.specs.Decimal.{decimal}
use Rattle.logs.specs.Log.{is_counts}

-- a text and the mark that ends it
abbrev pub ended : List ℕ → ℕ → List ℕ
ended text mark = text ++ (mark ∷ [])

-- a line of the report: a name and a value
unfoldable pub line : List ℕ → List ℕ → List ℕ
line name value = ended name tab ++ ended value line_feed

-- the channel's kilohertz
abbrev pub frequency : Counts → ℕ
frequency counts = (kilohertz_of (record { 0 = counts.channel })).number

-- 1000 x bits / read rounded down, or `-` where read is 0
unfoldable pub thousandths : ℕ → ℕ → List ℕ
thousandths bits read = cond (eqb read 0) (ascii "-") (decimal (1000 * bits / read))

-- the whole report, in this order
unfoldable pub report_of : Counts → List ℕ
report_of counts =
    line (ascii "khz") (decimal (frequency counts))
    ++ (line (ascii "slots") (decimal counts.slots)
    ++ (line (ascii "read") (decimal counts.read)
    ++ (line (ascii "clean") (decimal counts.clean)
    ++ (line (ascii "bits") (decimal counts.bits)
    ++ (line (ascii "noword") (decimal counts.noword)
    ++ (line (ascii "check") (decimal counts.check)
    ++ (line (ascii "missing") (decimal counts.missing)
    ++ line (ascii "mean") (thousandths counts.bits counts.read))))))))

-- What is told of a text that was asked for: the paper's answer, the text's length, 0 where it was refused, and the lent output as it is
-- left.
pub record ToldText : Type 0 where
  pub answer : Paper
  pub length : ℕ
  pub out : List ℕ

abbrev pub told_text : Result ℕ Refusal → List ℕ → ToldText
told_text (Ok length) out = record { answer = accepted; length = length; out = out }
told_text (Err refusal) out = record { answer = refused (number_of refusal); length = 0; out = out }

-- a refusal leaves the output as before
abbrev pub not_delivered : ℕ → List ℕ → ToldText
not_delivered number out = record { answer = refused number; length = 0; out = out }

-- 10 for an output that is shorter; else the text stands at its start, and the bytes after it stay
abbrev pub delivered : List ℕ → List ℕ → ToldText
delivered text out =
    unless (leb (length text) (length out)) (not_delivered 10 out)
    (record { answer = accepted; length = length text; out = text ++ drop (length text) out })

-- 11 for counts that no accepted log gives
unfoldable pub reported_of : Counts → List ℕ → ToldText
reported_of counts out = unless (is_counts counts) (not_delivered 11 out) (delivered (report_of counts) out)

-- `refused`, 12 and the line number, parted by tabs
unfoldable pub refusal_line : ℕ → ℕ → List ℕ
refusal_line number place = ended (ascii "refused") tab ++ (ended (decimal number) tab ++ ended (decimal place) line_feed)

-- of a log that was refused only that is written
abbrev pub or_refusal : Paper → ℕ → List ℕ → ToldText → ToldText
or_refusal accepted place out text = text
or_refusal (refused number) place out text = delivered (refusal_line number place) out

unfoldable pub report_log_of : LogRead → List ℕ → ToldText
report_log_of log out = or_refusal (paper log.answer) log.line out (reported_of log.counts out)
