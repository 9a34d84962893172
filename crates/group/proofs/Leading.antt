-- THE LEADING BYTES ARE THE JOINED DATA, where the caller gives the buffer back as each call left it; and what a refusal leaves. Assumes nothing.
use Prim.Native.Nat.{ℕ, ◌+◌, ◌%◌, ◌≤◌}
use mathlib.Core.Path.{◌≡◌, refl, sym, ap, ◌∙◌, subst}
use mathlib.Core.Bool.{Bool, true, false, not, cond}
use mathlib.Core.List.{List, [], ◌∷◌, ◌++◌, map}
use native.Mathlib.Omega.{arith}
use borrow.Author.Tests.{leb-true}
use lib.Dec.{eqb, leb, ltb}
use lib.ListN.{length, take, length-append}
use lib.Seq.{paste, take-paste, take-length, length-take-le}
use Rattle.answers.specs.Rules.{state_left}
use Rattle.group.specs.Answers.{Outcome, taken, repeat, whole, refused, GroupAfter}
use Rattle.group.specs.State.{idle, keeps_rule, message_fits, is_idle, is_repeat, joined_on, join_of}
use Rattle.group.specs.Leading.{Message, GroupAndBuffer, JoinResult, told_result, join_message, left_by, Joins, joined_to, changes_nothing, joined_after, joined_by, Leads}
use Rattle.group.specs.declared.Group.{Group}
use Rattle.answers.proofs.Rules.{unless_elim, cond_with}
use Rattle.answers.proofs.Runs.{run_of, run_told}
use Rattle.group.proofs.Laws.{rule_room}

-- the data behind the bytes held
pub front : (buffer s : List ℕ) (held : ℕ) → held ≤ length buffer → take (held + length s) (paste buffer held s (length s)) ≡ take held buffer ++ s
front buffer s held h = take-paste buffer held s (length s) h (omega arith) ∙ ap (λ (r : List ℕ). take held buffer ++ r) (take-length s)

front_length : (buffer s : List ℕ) (held : ℕ) → held ≤ length buffer → length (take held buffer ++ s) ≡ held + length s
front_length buffer s held h = length-append (take held buffer) s ∙ ap (λ (n : ℕ). n + length s) (length-take-le held buffer h)

-- ---- one message

-- the state counts these bytes, and the buffer begins with them
abbrev Counts : GroupAndBuffer → List ℕ → Type 0
Counts s joined = (s.group.held ≡ length joined) × (take (length joined) s.buffer ≡ joined)

module _ (g : Group) (buffer : List ℕ) (m : Message) where
  -- what each answer tells of the state and of the buffer left, with the data joined on
  abbrev Tells : List ℕ → Outcome → GroupAndBuffer → Type 0
  Tells joined taken left = Counts left joined
  Tells joined repeat left = (left.group ≡ g) × (left.buffer ≡ buffer)
  Tells joined (whole n) left = (n ≡ length joined) × (take n left.buffer ≡ joined) × (left.group ≡ idle g.number)
  Tells joined (refused n) left = (left.group ≡ cond (changes_nothing n) g (idle g.number)) × (left.buffer ≡ buffer)

  abbrev Told : List ℕ → GroupAfter → Type 0
  Told joined t = Tells joined t.answer (left_by t)

  joined_told : (b : Group) → b.number ≡ g.number → b.held ≤ length buffer → Told (take b.held buffer ++ m.bytes) (joined_on b m.fields m.bytes buffer)
  unfolding joined_on
  joined_told b e h =
      let d = take b.held buffer ++ m.bytes in
      let n = front_length buffer m.bytes b.held h in
      let f = front buffer m.bytes b.held h in
      cond_with (Told d) m.fields.last (λ _. (sym n, f, ap idle e))
      λ _. (sym n, ap (λ (k : ℕ). take k (paste buffer b.held m.bytes (length m.bytes))) n ∙ f)

  told : Told (joined_to (take g.held buffer) m) (join_of g m.fields m.bytes buffer)
  unfolding join_of joined_on
  told =
      let d = joined_to (take g.held buffer) m in
      unless_elim (Told d) (leb 3825 (length buffer)) _ _ (refl, refl) λ l.
      unless_elim (Told d) (keeps_rule g) _ _ (refl, refl) λ rule.
      unless_elim (Told d) (message_fits m.fields (length m.bytes)) _ _ (refl, refl) λ _.
      unless_elim (Told d) (eqb m.fields.number g.number) _ _ (refl, refl) λ _.
      unless_elim (Told d) (not m.fields.command) _ _ (refl, refl) λ _.
      cond_with (Told d) (is_repeat g m.fields m.bytes buffer) (λ _. (refl, refl)) λ _.
      cond_with (Told d) m.fields.first (λ first. rw first (joined_told (idle g.number) refl (omega arith)))
      λ first. rw first
      (let e = take g.held buffer ++ m.bytes in
      unless_elim (Told e) (not (is_idle g.phase)) _ _ (refl, refl) λ _.
      unless_elim (Told e) (eqb m.fields.ci ((g.ci + 1) % 4)) _ _ (refl, refl) λ _.
      unless_elim (Told e) (ltb g.messages 15) _ _ (refl, refl) λ _.
      joined_told g refl (omega (arith, rule_room g rule, leb-true 3825 (length buffer) l)))

  -- A REFUSAL CHANGES NO BYTE; 10, 11 AND 13 LEAVE THE STATE AS IT STOOD, AND ANY OTHER IDLE
  pub refused_kept : (j : JoinResult) (n : ℕ) → told_result j ≡ join_of g m.fields m.bytes buffer → (told_result j).answer ≡ refused n
      → (j.stepped.group ≡ cond (changes_nothing n) g (idle g.number)) × (j.buffer ≡ buffer)
  refused_kept j n did e =
      let d = joined_to (take g.held buffer) m in
      subst (λ (o : Outcome). Tells d o (left_by (told_result j))) e (subst (Told d) (sym did) told)

  -- A REPEAT CHANGES NOTHING
  pub repeat_changes_nothing : (j : JoinResult) → told_result j ≡ join_of g m.fields m.bytes buffer → (told_result j).answer ≡ repeat → (j.stepped.group ≡ g) × (j.buffer ≡ buffer)
  repeat_changes_nothing j did e =
      let d = joined_to (take g.held buffer) m in
      subst (λ (o : Outcome). Tells d o (left_by (told_result j))) e (subst (Told d) (sym did) told)

-- ---- a run of messages

module _ (s : GroupAndBuffer) (joined : List ℕ) (c : Counts s joined) where
  -- 10, 11 and 13 leave what is counted, and an idle state counts nothing
  counts_kept : (b : Bool) (left : GroupAndBuffer) → left.group ≡ cond b s.group (idle s.group.number) → left.buffer ≡ s.buffer → Counts left (cond b joined [])
  counts_kept true left p q = (ap (λ (g : Group). g.held) p ∙ c.0, ap (take (length joined)) q ∙ c.1)
  counts_kept false left p q = (ap (λ (g : Group). g.held) p, refl)

  counts_after : (m : Message) (o : Outcome) (left : GroupAndBuffer) → Tells s.group s.buffer m (joined_to joined m) o left → Counts left (joined_after o joined m)
  counts_after m taken left t = t
  counts_after m repeat left t = counts_kept true left t.0 t.1
  counts_after m (whole n) left t = (ap (λ (g : Group). g.held) t.2, refl)
  counts_after m (refused n) left t = counts_kept (changes_nothing n) left t.0 t.1

  counted_told : (m : Message) → Told s.group s.buffer m (joined_to joined m) (join_message s m)
  counted_told m =
      let held : take s.group.held s.buffer ≡ joined = ap (λ (k : ℕ). take k s.buffer) c.0 ∙ c.1 in
      rw (← held) (told s.group s.buffer m)

  leads : Leads s joined
  leads =
      record {
        counted = c.0;
        begins = c.1;
        completed = λ m j n did e.
            let d = joined_to joined m in
            let t = subst (λ (o : Outcome). Tells s.group s.buffer m d o (left_by (told_result j))) e (subst (Told s.group s.buffer m d) (sym did) (counted_told m)) in
            (t.0, t.1);
      }

run_leads : (s : GroupAndBuffer) (messages : List Message) (joined : List ℕ) → Counts s joined
    → let told = run_of join_message left_by s messages in Leads (state_left left_by s told) (joined_by told joined messages)
run_leads s [] joined c = leads s joined c
run_leads s (m ∷ messages) joined c =
    let t = join_message s m in
    run_leads (left_by t) messages (joined_after t.answer joined m) (counts_after s joined c m t.answer (left_by t) (counted_told s joined c m))

-- After any messages whatever, from a state whose counted bytes the buffer has, as it has those of a fresh one, which counts none.
pub leading_bytes : (s : GroupAndBuffer) (messages : List Message) (joins : List JoinResult) → Joins s messages joins → s.group.held ≤ length s.buffer
    → let told = map told_result joins in Leads (state_left left_by s told) (joined_by told (take s.group.held s.buffer) messages)
leading_bytes s messages joins did h =
    let n = length-take-le s.group.held s.buffer h in
    subst (λ (told : List GroupAfter). Leads (state_left left_by s told) (joined_by told (take s.group.held s.buffer) messages))
    (sym (run_told join_message left_by told_result s messages joins did))
    (run_leads s messages (take s.group.held s.buffer) (sym n, ap (λ (k : ℕ). take k s.buffer) n))
