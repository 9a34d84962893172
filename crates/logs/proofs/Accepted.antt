-- A log is accepted exactly if it is the text of a channel and outcomes, and then with their counts. Assumes nothing.
use Prim.Native.Nat.{ℕ}
use mathlib.Core.Path.{◌≡◌, ap, sym, ◌∙◌}
use mathlib.Core.Bool.{true}
use mathlib.Core.List.{List, [], ◌∷◌, ◌++◌, append-nil}
use Rattle.answers.specs.Numbers.{accepted}
use Rattle.answers.proofs.Determined.{refused_accepted}
use Rattle.logs.specs.Log.{log_text, counts_from, tuned}
use Rattle.logs.specs.Reader.{ToldLog, read_of}
use Rattle.logs.specs.Beginning.{Beginning, nothing, lines, text_of, is_good, told_of, AcceptedLog}
use Rattle.logs.proofs.Plain.{plain_none}
use Rattle.logs.proofs.Refused.{plain_told}
use Rattle.logs.proofs.Parted.{parted}

-- A LOG WRITTEN FROM OUTCOMES READS BACK WITH THEIR COUNTS
pub written_read : (n : ℕ) (os : List ℕ) → is_good (lines n os) ≡ true
    → read_of (log_text n os) ≡ record { answer = accepted; line = 0; counts = counts_from (tuned n) os }
written_read n os g = ap read_of (sym (append-nil (log_text n os))) ∙ plain_told (lines n os) [] g plain_none

told_text : (log : List ℕ) (b : Beginning) (rest : List ℕ) → is_good b ≡ true → log ≡ text_of b ++ rest → read_of log ≡ told_of b rest
    → (read_of log).answer ≡ accepted → AcceptedLog log
told_text log nothing rest g t r e = absurd (refused_accepted 12 (sym (ap (λ (t : ToldLog). t.answer) r) ∙ e))
told_text log (lines n os) (x ∷ rest) g t r e = absurd (refused_accepted 12 (sym (ap (λ (t : ToldLog). t.answer) r) ∙ e))
told_text log (lines n os) [] g t r e =
    record {
      channel = n;
      outcomes = os;
      good = g;
      text = t ∙ append-nil (log_text n os);
      counts = ap (λ (t : ToldLog). t.counts) r;
    }

-- AND AN ACCEPTED LOG IS THE TEXT OF ITS CHANNEL AND OUTCOMES
pub accepted_text : (log : List ℕ) → (read_of log).answer ≡ accepted → AcceptedLog log
accepted_text log e = let p = parted log in told_text log p.beginning p.rest p.good p.text p.told e
