-- Laws of tests in order, and of the test that two flags are the same. Assumes nothing.
use mathlib.Core.Path.{◌≡◌, refl}
use mathlib.Core.Bool.{Bool, true, false, cond, ◌&&◌, beq, false≢true}
use Rattle.answers.specs.Rules.{unless}

-- two tests with one answer are one test
pub unless_and : {A : Type 0} (a b : Bool) (x y : A) → unless a x (unless b x y) ≡ unless (a && b) x y
unless_and true b x y = refl
unless_and false b x y = refl

-- what holds on both sides of a test holds of it
pub unless_elim : {A : Type 0} (P : A → Type 0) (b : Bool) (x y : A) → P x → (b ≡ true → P y) → P (unless b x y)
unless_elim P true x y px py = py refl
unless_elim P false x y px py = px

pub cond_with {ℓ} : {A : Type ℓ} (P : A → Type 0) (b : Bool) {x y : A} → (b ≡ true → P x) → (b ≡ false → P y) → P (cond b x y)
cond_with P true px py = px refl
cond_with P false px py = py refl

-- what never holds of a test's refusal has, where it holds, passed the test
pub unless_passed : {A : Type 0} (P : A → Type 0) (b : Bool) (x y : A) → (P x → ⊥) → P (unless b x y) → (b ≡ true) × P y
unless_passed P true x y never p = (refl, p)
unless_passed P false x y never p = absurd (never p)

pub beq_refl : (s : Bool) → beq s s ≡ true
beq_refl true = refl
beq_refl false = refl

pub beq_true : (s t : Bool) → beq s t ≡ true → s ≡ t
beq_true true true e = refl
beq_true true false e = absurd (false≢true e)
beq_true false true e = absurd (false≢true e)
beq_true false false e = refl
