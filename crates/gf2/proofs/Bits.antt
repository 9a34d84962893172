-- Laws of bits and of their sum, each a split into cases. Assumes nothing.
use mathlib.Core.Path.{◌≡◌, refl, sym, ap, ◌∙◌}
use mathlib.Core.Bool.{Bool, true, false, ◌&&◌}
use Prim.Native.Nat.{◌<◌}
use mir.Val.{bool_byte}
use native.Mathlib.Omega.{arith}
use Rattle.gf2.specs.Poly.{bit, ◌⊕◌}

pub bit_lt : (b : Bool) → bit b < 2
bit_lt true = omega arith
bit_lt false = omega arith

-- the library's number of a bit
pub number_of_bit : (b : Bool) → bool_byte b ≡ bit b
number_of_bit true = refl
number_of_bit false = refl

pub ⊕_self : (x : Bool) → x ⊕ x ≡ false
⊕_self true = refl
⊕_self false = refl

pub ⊕_false : (x : Bool) → x ⊕ false ≡ x
⊕_false true = refl
⊕_false false = refl

pub ⊕_twice : (x y : Bool) → x ⊕ (x ⊕ y) ≡ y
⊕_twice true true = refl
⊕_twice true false = refl
⊕_twice false y = refl

pub ⊕_comm : (x y : Bool) → x ⊕ y ≡ y ⊕ x
⊕_comm true true = refl
⊕_comm true false = refl
⊕_comm false true = refl
⊕_comm false false = refl

pub ⊕_assoc : (x y z : Bool) → x ⊕ y ⊕ z ≡ x ⊕ (y ⊕ z)
⊕_assoc true true z = sym (⊕_twice true z)
⊕_assoc true false z = refl
⊕_assoc false y z = refl

pub ⊕_left_comm : (x y z : Bool) → x ⊕ (y ⊕ z) ≡ y ⊕ (x ⊕ z)
⊕_left_comm x y z = sym (⊕_assoc x y z) ∙ ap (λ b. b ⊕ z) (⊕_comm x y) ∙ ⊕_assoc y x z

-- two sums, added, are the sums of their parts
pub ⊕_swap : (a b c d : Bool) → a ⊕ b ⊕ (c ⊕ d) ≡ a ⊕ c ⊕ (b ⊕ d)
⊕_swap a b c d = ⊕_assoc a b (c ⊕ d) ∙ ap (λ z. a ⊕ z) (⊕_left_comm b c d) ∙ sym (⊕_assoc a c (b ⊕ d))

-- a sum is zero exactly where its two bits are the same
pub ⊕_zero : (x y : Bool) → x ⊕ y ≡ false → x ≡ y
⊕_zero x y e = sym (⊕_false x) ∙ ap (λ z. x ⊕ z) (sym e) ∙ ⊕_twice x y

pub &&_⊕ : (b x y : Bool) → (b && (x ⊕ y)) ≡ (b && x) ⊕ (b && y)
&&_⊕ true x y = refl
&&_⊕ false x y = refl

pub ⊕_&& : (x y b : Bool) → (x ⊕ y && b) ≡ (x && b) ⊕ (y && b)
⊕_&& true true b = sym (⊕_self b)
⊕_&& true false b = sym (⊕_false b)
⊕_&& false y b = refl
