-- NO TWO OUTCOMES MEET A PROMISE of this crate's public functions. Assumes nothing.
use Prim.Native.Nat.{ℕ}
use mathlib.Core.Path.{◌≡◌, refl, sym, ap, ◌∙◌}
use mathlib.Core.List.{List}
use Rattle.std.specs.Prelude.{Result, Ok, Err}
use Rattle.answers.specs.Numbers.{paper}
use Rattle.answers.specs.declared.Refusal.{Refusal}
use Rattle.answers.proofs.Determined.{refusal_of, undone, paper_once}
use Rattle.channel.specs.declared.Fields.{Fields}
use Rattle.group.specs.Answers.{Outcome, taken, repeat, whole, refused, outcome, GroupAfter, told_join, made}
use Rattle.group.specs.Answers as answers
use Rattle.group.specs.State.{new_of, join_of}
use Rattle.group.specs.declared.Group.{Group}
use Rattle.group.specs.declared.Made.{Made}
use Rattle.group.specs.declared.Step.{Step}
use Rattle.group.specs.declared.Step.TheVariants.{Taken, Repeat, Whole}
use Rattle.group.specs.declared.Stepped.{Stepped}

-- `Group::new`
pub new_once : (number : ℕ) (r s : Made) → made (paper r.answer) r.group ≡ new_of number → made (paper s.answer) s.group ≡ new_of number → r ≡ s
new_once number r s p q =
    let e = p ∙ sym q in
    let answer = paper_once r.answer s.answer (ap (λ (l : answers.Made). l.answer) e) in
    let group = ap (λ (l : answers.Made). l.group) e in
    λ i. record { answer = answer i; group = group i }

-- the answer that an outcome tells of
answer_of : Outcome → Result Step Refusal
answer_of taken = Ok Taken
answer_of repeat = Ok Repeat
answer_of (whole n) = Ok (Whole n)
answer_of (refused n) = Err (refusal_of n)

told_back : (a : Result Step Refusal) → answer_of (outcome a) ≡ a
unfolding answer_of
told_back (Ok Taken) = refl
told_back (Ok Repeat) = refl
told_back (Ok (Whole n)) = refl
told_back (Err r) = ap Err (undone r)

-- `Group::join`: what it returns, and the buffer
pub join_once : (g : Group) (m : Fields) (s buffer : List ℕ) (r t : Stepped) (x y : List ℕ) → told_join r x ≡ join_of g m s buffer → told_join t y ≡ join_of g m s buffer → (r ≡ t) × (x ≡ y)
join_once g m s buffer r t x y p q =
    let e = p ∙ sym q in
    let answer = sym (told_back r.answer) ∙ ap (λ (l : GroupAfter). answer_of l.answer) e ∙ told_back t.answer in
    let group = ap (λ (l : GroupAfter). l.group) e in
    (λ i. record { answer = answer i; group = group i }, ap (λ (l : GroupAfter). l.buffer) e)
