-- `text::fields::find`: the first byte that the search finds is the first. Assumes nothing.
use Rattle.std.proofs.Common.{◌≡◌, ℕ, ◌≤◌, List, length, Option, None, Some, refl, ◌∙◌, ap, cond, arith, eqb}
use Rattle.std.specs.Option.{unwrap_or}
use Rattle.std.specs.List.{position_or_len}
use Rattle.std.proofs.lemmas.Bool.{false_from_ne_true}
use Rattle.std.proofs.lemmas.List.Recursion.{is_position_or_len}
use Rattle.std.proofs.lemmas.List.Sums.{position_or_len_is}
use Rattle.memchr.specs.Find.{IsFirstByte, is_byte}
use Rattle.text.specs.Find.{index_of}
use Rattle.text.proofs.fields.find.Goals as goal

first_is : (b : ℕ) (s : List ℕ) (r : Option ℕ) → IsFirstByte (is_byte b) s r → index_of b s ≡ unwrap_or r (length s)
unfolding index_of
first_is b s r f = is_position_or_len (index_of b) (is_byte b) refl (λ x xs. ap (cond (eqb x b) 0) (omega arith)) s ∙ by_case r f
  where
    by_case : (r : Option ℕ) → IsFirstByte (is_byte b) s r → position_or_len (is_byte b) s ≡ unwrap_or r (length s)
    by_case None f = position_or_len_is (is_byte b) s (length s) 0 (omega arith) (λ k l. false_from_ne_true _ (f k (omega arith) l)) (λ h. absurd (omega arith))
    by_case (Some k) f = position_or_len_is (is_byte b) s k 0 (omega arith) (λ j l. false_from_ne_true _ (f.0.before j (omega arith) l)) (λ h. f.1)

within : (b : ℕ) (s : List ℕ) (r : Option ℕ) → IsFirstByte (is_byte b) s r → unwrap_or r (length s) ≤ length s
within b s None f = omega arith
within b s (Some k) f = omega (arith, f.0.high)

pub returns : goal.returns
returns c =
    let bytes = c.args.bytes.now in
    let f = first_is c.args.byte bytes c.memchr.result c.memchr.ensures in
    record { first = cc; within = omega (arith, c.unwrap_or.ensures, within c.args.byte bytes c.memchr.result c.memchr.ensures) }
