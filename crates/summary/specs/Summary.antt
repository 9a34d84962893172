-- Document 01, "The log and its report": the summary record, for the spreadsheet. Assumes nothing.
use Rattle.std.specs.Prelude.{ℕ, false, cond, not, eqb, pos, Float, Result, Ok, Err}
use Rattle.std.specs.Float.{binary64}
use Rattle.std.specs.Float.Ieee.{of_int, of_bits, div}
use Rattle.std.specs.Float.Ieee.Exact.{HasValue}
use Rattle.answers.specs.declared.Refusal.{Refusal}
use Rattle.answers.specs.Numbers.{Paper, accepted, refused, number_of}
use Rattle.answers.specs.Rules.{unless}
use Rattle.logs.specs.declared.Counts.{Counts}
use Rattle.logs.specs.Log.{is_counts}
use Rattle.summary.specs.declared.Summary.{Summary}

-- all 64 bits are 0
abbrev pub positive_zero : Float
positive_zero = of_bits binary64 0

-- a whole number turned into binary64
abbrev pub turned : ℕ → Float
turned n = of_int binary64 (pos n)

-- one division of two whole numbers turned into binary64
abbrev pub quotient : ℕ → ℕ → Float
quotient a b = div binary64 (turned a) (turned b)

-- with a clear flag the number is positive zero
abbrev pub share : ℕ → ℕ → Float
share a b = cond (eqb b 0) positive_zero (quotient a b)

-- the mean is bits by read, the missing share missing by slots
unfoldable pub summary_of : Counts → Summary
summary_of counts =
    record {
      mean_exists = not (eqb counts.read 0);
      mean = share counts.bits counts.read;
      missing_exists = not (eqb counts.slots 0);
      missing = share counts.missing counts.slots;
    }

-- without loss: each number that is divided is, turned into binary64, still that number
pub record WithoutLoss (counts : Counts) : Type 0 where
  pub bits : HasValue (turned counts.bits) false counts.bits 1
  pub read : HasValue (turned counts.read) false counts.read 1
  pub missing : HasValue (turned counts.missing) false counts.missing 1
  pub slots : HasValue (turned counts.slots) false counts.slots 1

-- both flags clear
abbrev pub no_summary : Summary
no_summary = record { mean_exists = false; mean = positive_zero; missing_exists = false; missing = positive_zero }

-- What is told of a summary: the paper's answer, and the record, that with both flags clear where it was refused.
pub record ToldSummary : Type 0 where
  pub answer : Paper
  pub summary : Summary

abbrev pub told_summary : Result Summary Refusal → ToldSummary
told_summary (Ok summary) = record { answer = accepted; summary = summary }
told_summary (Err refusal) = record { answer = refused (number_of refusal); summary = no_summary }

-- counts that no accepted log gives are 11
unfoldable pub summarised_of : Counts → ToldSummary
summarised_of counts =
    unless (is_counts counts) (record { answer = refused 11; summary = no_summary })
    (record { answer = accepted; summary = summary_of counts })
