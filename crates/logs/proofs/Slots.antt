-- The next slot's line, read forward. Assumes nothing.
use Prim.Native.Nat.{ℕ, zero, suc, ◌+◌, ◌-◌, ◌*◌, ◌/◌, ◌%◌, ◌^◌, ◌<◌, ◌≤◌}
use mathlib.Core.Path.{◌≡◌, ap, ap₂, sym, ◌∙◌}
use mathlib.Core.Bool.{true, false≢true}
use mathlib.Core.List.{List, [], ◌∷◌, ◌++◌, append_assoc}
use native.Mathlib.Nat.{pow-suc, pow-le-pow_right}
use native.Mathlib.Omega.{arith}
use lib.ListN.{length, get_or, take, drop, take-append-drop}
use lib.Seq.{take-take, take-suc}
use lib.Dec.{eqb}
use borrow.Author.Tests.{eqb-true, ne_eqb}
use Rattle.std.specs.Prelude.{Option, None, Some, SomeIff}
use Rattle.std.specs.Option.{option_eq}
use Rattle.logs.specs.declared.Counts.{Counts}
use Rattle.logs.specs.Decimal.{decimal}
use Rattle.logs.specs.Log.{slot_line, is_outcome}
use Rattle.logs.specs.Machine.{Numeral, NextSlot}
use Rattle.logs.proofs.Decimal.{decimal_few, decimal_more}

decimal_digit : (n b : ℕ) → 1 ≤ n → n * 10 + (b - 48) < 10 ^ 20 → 48 ≤ b → b ≤ 57 → decimal (n * 10 + (b - 48)) ≡ decimal n ++ (b ∷ [])
decimal_digit n b h k l m =
    let q : (n * 10 + (b - 48)) / 10 ≡ n = omega arith in
    let r : 48 + (n * 10 + (b - 48)) % 10 ≡ b = omega arith in
    decimal_more (n * 10 + (b - 48)) (omega arith) k ∙ rw (q, r)

-- so many digits spell a number below a million
pub numeral_small : (text : List ℕ) (i n : ℕ) → Numeral text i n → n < 10 ^ 6
numeral_small text i n r = omega (arith, r.few, pow-le-pow_right {n = 10} (omega arith) {i = i} {j = 6} r.short)

-- a digit more, after none or some
pub numeral_more : (text : List ℕ) (i n : ℕ) → Numeral text i n → i < 6 → i < length text → (get_or text 0 0 ≡ 48 → ⊥)
    → 48 ≤ get_or text i 0 → get_or text i 0 ≤ 57 → Numeral text (i + 1) (n * 10 + (get_or text i 0 - 48))
numeral_more text zero n r s h z l m =
    let few : n ≡ 0 = omega (arith, r.few) in
    let b = get_or text 0 0 in
    let e : 48 + (n * 10 + (b - 48)) ≡ b = omega arith in
    record {
      few = omega arith;
      positive = λ o. omega (arith, z);
      spelt = λ o. take-suc text 0 0 h ∙ sym (decimal_few (n * 10 + (b - 48)) (omega arith) ∙ ap (λ (x : ℕ). x ∷ []) e);
      short = omega arith;
    }
numeral_more text (suc i) n r s h z l m =
    let b = get_or text (suc i) 0 in
    let small = numeral_small text (suc i) n r in
    let e : suc i + 1 ≡ suc (suc i) = omega arith in
    let one = r.positive (omega arith) in
    record {
      few = rw (e, pow-suc 10 (suc i)) (omega (arith, r.few));
      positive = λ o. omega arith;
      spelt = λ o. ap (λ (k : ℕ). take k text) e ∙ take-suc text (suc i) 0 h ∙ rw (r.spelt (omega arith)) (sym (decimal_digit n b one (omega arith) l m));
      short = omega arith;
    }

-- what the first nine bytes begin with the whole text begins with
pub numeral_front : (text front : List ℕ) (i n : ℕ) → front ≡ take 9 text → Numeral front i n → Numeral text i n
numeral_front text front i n e r =
    record { few = r.few; positive = r.positive; spelt = λ h. sym (take-take i 9 text (omega (arith, r.short))) ∙ ap (take i) (sym e) ∙ r.spelt h; short = r.short }

three_front : (l : List ℕ) → 3 ≤ length l → get_or l 0 0 ≡ 9 → get_or l 2 0 ≡ 10 → l ≡ 9 ∷ get_or l 1 0 ∷ 10 ∷ drop 3 l
three_front [] h p q = absurd (omega arith)
three_front (x ∷ []) h p q = absurd (omega arith)
three_front (x ∷ y ∷ []) h p q = absurd (omega arith)
three_front (x ∷ y ∷ z ∷ l) h p q = λ i. p i ∷ y ∷ q i ∷ l

-- what is behind a number less one
pub one_more : (n m : ℕ) (r : Option ℕ) → SomeIff r (1 ≤ n) (n - 1) → option_eq eqb r (Some m) ≡ true → n ≡ m + 1
one_more n m None h e = absurd (false≢true e)
one_more n m (Some k) h e = omega (arith, h.0, h.1, eqb-true k m e)

pub next_slot : (c : Counts) (piece front : List ℕ) (i n : ℕ) (part rest : List ℕ) → front ≡ take 9 piece → Numeral front i n → (c.channel ≡ 0 → ⊥) → n ≡ c.slots + 1
    → part ≡ drop i piece → 3 ≤ length part → get_or part 0 0 ≡ 9 → get_or part 2 0 ≡ 10 → is_outcome (get_or part 1 0) ≡ true → rest ≡ drop 3 part
    → NextSlot c piece (get_or part 1 0) rest
unfolding slot_line
next_slot c piece front i n part rest f r t e p h tab feed q b =
    let o = get_or part 1 0 in
    let whole = numeral_front piece front i n f r in
    let spelt = whole.spelt (some_digit i (rw e at r.few)) ∙ ap decimal e in
    record {
      tuned = ne_eqb c.channel 0 t;
      few = omega (arith, numeral_small piece i n whole);
      outcome_is = q;
      line = sym (take-append-drop i piece)
          ∙ ap₂ (λ (a b : List ℕ). a ++ b) spelt (sym p ∙ three_front part h tab feed ∙ ap (λ (k : List ℕ). 9 ∷ o ∷ 10 ∷ k) (sym b))
          ∙ sym (append_assoc (decimal (c.slots + 1)) (9 ∷ o ∷ []) (10 ∷ rest));
    }
  where
    some_digit : (i : ℕ) → c.slots + 1 < 10 ^ i → 0 < i
    some_digit zero h = absurd (omega arith)
    some_digit (suc i) h = omega arith
