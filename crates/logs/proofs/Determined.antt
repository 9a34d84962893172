-- No two outcomes of a public function meet its promise. Assumes nothing.
use Prim.Native.Nat.{ℕ}
use mathlib.Core.Path.{◌≡◌, ap, sym, ◌∙◌}
use mathlib.Core.Bool.{Bool}
use mathlib.Core.List.{List}
use Rattle.answers.proofs.Determined.{paper_once}
use Rattle.logs.specs.declared.Counts.{Counts}
use Rattle.logs.specs.declared.Reader.{Reader}
use Rattle.logs.specs.declared.LogRead.{LogRead}
use Rattle.logs.specs.declared.Fed.{Fed}
use Rattle.logs.specs.Log.{is_counts}
use Rattle.logs.specs.Reader.{ToldLog, told_log, ToldFed, told_fed, fresh_reader, read_of, fed_of, end_of}

pub read_once : (log : List ℕ) (r s : LogRead) → told_log r ≡ read_of log → told_log s ≡ read_of log → r ≡ s
read_once log r s d e =
    let t = d ∙ sym e in
    let p = paper_once r.answer s.answer (ap (λ (t : ToldLog). t.answer) t) in
    let q = ap (λ (t : ToldLog). t.line) t in
    let c = ap (λ (t : ToldLog). t.counts) t in
    λ i. record { answer = p i; line = q i; counts = c i }

pub start_once : (r s : Reader) → r ≡ fresh_reader → s ≡ fresh_reader → r ≡ s
start_once r s d e = d ∙ sym e

-- what is told determines what a piece or the end gives
told_once : (r s : Fed) → told_fed r ≡ told_fed s → r ≡ s
told_once r s t =
    let p = paper_once r.answer s.answer (ap (λ (t : ToldFed). t.answer) t) in
    let q = ap (λ (t : ToldFed). t.line) t in
    let n = ap (λ (t : ToldFed). t.reader) t in
    λ i. record { answer = p i; line = q i; reader = n i }

pub feed_once : (reader : Reader) (piece : List ℕ) (r s : Fed) → told_fed r ≡ fed_of reader piece → told_fed s ≡ fed_of reader piece → r ≡ s
feed_once reader piece r s d e = told_once r s (d ∙ sym e)

pub end_once : (reader : Reader) (r s : Fed) → told_fed r ≡ end_of reader → told_fed s ≡ end_of reader → r ≡ s
end_once reader r s d e = told_once r s (d ∙ sym e)

pub is_counts_once : (counts : Counts) (r s : Bool) → r ≡ is_counts counts → s ≡ is_counts counts → r ≡ s
is_counts_once counts r s d e = d ∙ sym e
