-- REPEATS ARE HARMLESS: copies behind messages that were taken are repeats, and change no other answer, not the state and not the buffer. And what
-- copies of a First and of a Last meet. Assumes nothing.
use Prim.Native.Nat.{ℕ, zero, suc, ◌+◌, ◌-◌, ◌*◌, ◌%◌, ◌≤◌, ◌<◌}
use mathlib.Core.Path.{◌≡◌, refl, sym, ap, ◌∙◌, subst}
use mathlib.Core.Bool.{Bool, true, false, not, cond, ◌&&◌, ◌||◌, beq, and-eq-true_iff, and-false, false≢true}
use mathlib.Core.List.{List, [], ◌∷◌, ◌++◌, append_assoc, map}
use native.Mathlib.Numerals.{add-one}
use native.Mathlib.Omega.{arith}
use borrow.Author.Tests.{eq-eqb, eqb-true, ne_eqb, leb-true, ltb-true, not-true}
use lib.Dec.{eqb, leb, ltb, eqb-suc-suc}
use lib.ListN.{length, take, drop, replicate, take-append-drop}
use lib.Seq.{paste, length-paste, take_at, drop_at, take-length, length-take-le}
use Rattle.answers.specs.Rules.{state_left}
use Rattle.answers.proofs.Rules.{unless_elim, cond_with, beq_refl, beq_true}
use Rattle.answers.proofs.Runs.{run_of, run_told}
use Rattle.text.specs.Fields.{same_as}
use Rattle.text.proofs.Laws.{same_refl, same_true}
use Rattle.channel.specs.declared.Fields.{Fields}
use Rattle.group.specs.Answers.{Outcome, taken, repeat, whole, refused, GroupAfter, group_after}
use Rattle.group.specs.State.{group_with, idle, keeps_rule, message_fits, is_idle, last_joined, is_repeat, joined_on, join_of}
use Rattle.group.specs.Leading.{Message, GroupAndBuffer, JoinResult, told_result, join_message, left_by, Joins}
use Rattle.group.specs.Repeats.{with_ri, copy_of, Sent, once, often, TwoBits, MayRepeat, AllMayRepeat, with_repeats, repeat_of, Harmless}
use Rattle.group.specs.declared.Group.{Group}
use Rattle.group.specs.declared.Phase.{Phase}
use Rattle.group.specs.declared.Phase.TheVariants.{Idle, Gathering}
use Rattle.group.proofs.Laws.{rule_room, rule_gathered, only_one, within_bounds, fits_true}
use Rattle.group.proofs.Joining.{once_more, begins, turned_away}
use Rattle.group.proofs.Rule.{rule_number, idle_rule, gathering_rule}

-- ---- what is no repeat

-- to an idle state nothing is
pub idle_new : (number : ℕ) (m : Fields) (s buffer : List ℕ) → is_repeat (idle number) m s buffer ≡ false
unfolding is_repeat
idle_new number m s buffer = refl

-- nor is a message with another CI
pub stepped_new : (g : Group) (m : Fields) (s buffer : List ℕ) → (m.ci ≡ g.ci → ⊥) → is_repeat g m s buffer ≡ false
unfolding is_repeat
stepped_new g m s buffer other = rw (ne_eqb m.ci g.ci other, and-false (not (is_idle g.phase)))

-- nor a Last
pub last_new : (g : Group) (m : Fields) (s buffer : List ℕ) → m.last ≡ true → is_repeat g m s buffer ≡ false
unfolding is_repeat
last_new g m s buffer last = rw (last, and-false (not (is_idle g.phase) && eqb m.ci g.ci && beq m.first (eqb g.messages 1)))

-- ---- a copy of a message that was taken

gathers : (p : Phase) → not (is_idle p) ≡ true → p ≡ Gathering
gathers Idle e = absurd (false≢true e)
gathers Gathering e = refl

-- what was pasted stands there
pasted : (buffer s : List ℕ) (held : ℕ) → held ≤ length buffer → take (length s) (drop held (paste buffer held s (length s))) ≡ s
pasted buffer s held h =
    let rest = drop (held + length s) buffer in
    ap (λ (l : List ℕ). take (length s) (drop held l)) (append_assoc (take held buffer) (take (length s) s) rest)
    ∙ ap (take (length s)) (drop_at (take held buffer) (take (length s) s ++ rest) held (length-take-le held buffer h))
    ∙ take_at (take (length s) s) rest (length s) (ap length (take-length s))
    ∙ take-length s

fits_again : (m : Fields) (ri d : ℕ) → ri ≤ 3 → message_fits m d ≡ true → message_fits (with_ri m ri) d ≡ true
fits_again m ri d h e = let b = within_bounds m d e in fits_true (with_ri m ri) d b.0 b.1 h b.3

-- what a copy meets, by the answer t to the message: a "repeat"; or, once the group has ended by a Last that was no First, 8
abbrev CopyMeets : Fields → Outcome → GroupAfter → GroupAfter → Type 0
CopyMeets m taken t copy = copy ≡ repeat_of t
CopyMeets m repeat t copy = copy ≡ repeat_of t
CopyMeets m (whole n) t copy = m.first ≡ false → copy ≡ group_after (refused 8) t.group t.buffer
CopyMeets m (refused n) t copy = Unit

module _ (m : Fields) (s : List ℕ) (ri : ℕ) (small : ri ≤ 3) where
  abbrev Copied : GroupAfter → Type 0
  Copied t = CopyMeets m t.answer t (join_of t.group (with_ri m ri) s t.buffer)

  module _ (buffer : List ℕ) (room : 3825 ≤ length buffer) (fits : message_fits m (length s) ≡ true) where
    -- joined on to g it stands behind what g holds, and is the only message where g holds none
    module _ (g : Group) (ours : (not (eqb m.number g.number) || m.command) ≡ false) (hn : g.number ≤ 16383) (hh : g.held ≤ 255 * g.messages) (hm : g.messages < 15)
        (first : m.first ≡ eqb g.messages 0) where
      abbrev next : Group
      next = group_with g.number Gathering (g.held + length s) (g.messages + 1) m.ci (length s)

      abbrev laid : List ℕ
      laid = paste buffer g.held s (length s)

      next_repeat : m.last ≡ false → is_repeat next (with_ri m ri) s laid ≡ true
      unfolding is_repeat
      next_repeat last =
          let n : g.held + length s - length s ≡ g.held = omega arith in
          let one : eqb (g.messages + 1) 1 ≡ eqb g.messages 0 = rw add-one (eqb-suc-suc g.messages 0) in
          rw (eq-eqb m.ci m.ci refl, one, ← first, beq_refl m.first, last, n, pasted buffer s g.held (omega arith), same_refl s)

      joined_copied : Copied (joined_on g m s buffer)
      unfolding joined_on
      joined_copied =
          let b = within_bounds m (length s) fits in
          let long : length laid ≡ length buffer = length-paste buffer g.held s (length s) (omega arith) (omega arith) in
          let again = fits_again m ri (length s) small fits in
          cond_with Copied m.last
          (λ _ later. sym (turned_away (idle g.number) (with_ri m ri) s laid (omega arith) (idle_rule g.number hn) again ours (idle_new g.number (with_ri m ri) s laid) later 8 refl))
          λ last. sym (once_more next (with_ri m ri) s laid (omega arith) (gathering_rule g.number g.held g.messages (length s) m.ci hn hh hm b.1 b.3) again ours (next_repeat last))

  -- once more a repeat
  still : (g : Group) (buffer : List ℕ) → is_repeat g m s buffer ≡ true → is_repeat g (with_ri m ri) s buffer ≡ true
  unfolding is_repeat
  still g buffer e = e

  copied : (g : Group) (buffer : List ℕ) → Copied (join_of g m s buffer)
  unfolding join_of
  copied g buffer =
      unless_elim Copied (leb 3825 (length buffer)) _ _ tt λ l.
      unless_elim Copied (keeps_rule g) _ _ tt λ rule.
      unless_elim Copied (message_fits m (length s)) _ _ tt λ fits.
      unless_elim Copied (eqb m.number g.number) _ _ tt λ same.
      unless_elim Copied (not m.command) _ _ tt λ no_command.
      let room = leb-true 3825 (length buffer) l in
      let ours : (not (eqb m.number g.number) || m.command) ≡ false = rw (same, not-true m.command no_command) in
      let hn = rule_number g rule in
      cond_with Copied (is_repeat g m s buffer) (λ e. sym (once_more g (with_ri m ri) s buffer room rule (fits_again m ri (length s) small fits) ours (still g buffer e))) λ _.
      cond_with Copied m.first (λ first. joined_copied buffer room fits (idle g.number) ours hn (omega arith) (omega arith) first) λ first.
      unless_elim Copied (not (is_idle g.phase)) _ _ tt λ gathering.
      unless_elim Copied (eqb m.ci ((g.ci + 1) % 4)) _ _ tt λ _.
      unless_elim Copied (ltb g.messages 15) _ _ tt λ few.
      let some : g.messages ≡ 0 → ⊥ = λ z. omega (arith, (rule_gathered g rule (gathers g.phase gathering)).some, z) in
      joined_copied buffer room fits g ours hn (rule_room g rule).0 (ltb-true g.messages 15 few) (first ∙ sym (ne_eqb g.messages 0 some))

copy_meets : (s : GroupAndBuffer) (m : Message) (ri : ℕ) (o : Outcome) → ri ≤ 3 → (join_message s m).answer ≡ o → CopyMeets m.fields o (join_message s m) (join_message (left_by (join_message s m)) (copy_of m ri))
copy_meets s m ri o small e =
    let t = join_message s m in
    subst (λ (o : Outcome). CopyMeets m.fields o t (join_message (left_by t) (copy_of m ri))) e (copied m.fields m.bytes ri small s.group s.buffer)

-- A LAST THAT WAS NO FIRST, ONCE MORE AFTER THE END: answer 8, and nothing changes
pub last_again : (s : GroupAndBuffer) (m : Message) (ri n : ℕ) (j copy : JoinResult) → m.fields.first ≡ false → ri ≤ 3 → told_result j ≡ join_message s m → (told_result j).answer ≡ whole n
    → told_result copy ≡ join_message (left_by (told_result j)) (copy_of m ri) → told_result copy ≡ group_after (refused 8) (told_result j).group (told_result j).buffer
last_again s m ri n j copy later small did e again =
    let meets = copy_meets s m ri (whole n) small (sym (ap (λ (t : GroupAfter). t.answer) did) ∙ e) later in
    again ∙ subst (λ (t : GroupAfter). join_message (left_by t) (copy_of m ri) ≡ group_after (refused 8) t.group t.buffer) (sym did) meets

-- ---- a run of messages

abbrev pub joins_of : GroupAndBuffer → List Message → List GroupAfter
joins_of = run_of join_message left_by

-- copies that are repeats each, then what follows
copies_run : (t : GroupAfter) (m : Message) (copies : List ℕ) (later : List Message) → TwoBits copies → ((ri : ℕ) → ri ≤ 3 → join_message (left_by t) (copy_of m ri) ≡ repeat_of t)
    → joins_of (left_by t) (map (copy_of m) copies ++ later) ≡ replicate (length copies) (repeat_of t) ++ joins_of (left_by t) later
copies_run t m [] later small each = refl
copies_run t m (ri ∷ copies) later small each =
    ap (λ (u : GroupAfter). u ∷ joins_of (left_by u) (map (copy_of m) copies ++ later)) (each ri small.0)
    ∙ ap (λ (told : List GroupAfter). repeat_of t ∷ told) (copies_run t m copies later small.1 each)

-- behind a message, by its answer
behind : (s : GroupAndBuffer) (m : Message) (copies : List ℕ) (later : List Message) (o : Outcome) → (join_message s m).answer ≡ o → MayRepeat o copies
    → let t = join_message s m in joins_of (left_by t) (map (copy_of m) copies ++ later) ≡ replicate (length copies) (repeat_of t) ++ joins_of (left_by t) later
behind s m copies later taken e may = copies_run (join_message s m) m copies later may (λ ri small. copy_meets s m ri taken small e)
behind s m copies later repeat e may = copies_run (join_message s m) m copies later may (λ ri small. copy_meets s m ri repeat small e)
behind s m copies later (whole n) e none = rw none
behind s m copies later (refused n) e none = rw none

pub often_run : (s : GroupAndBuffer) (sent : List Sent) → AllMayRepeat (joins_of s (once sent)) sent → joins_of s (often sent) ≡ with_repeats repeat_of (joins_of s (once sent)) sent
often_run s [] may = refl
often_run s (x ∷ sent) may =
    let t = join_message s x.message in
    ap (λ (told : List GroupAfter). t ∷ told)
    (behind s x.message x.copies (often sent) t.answer refl may.0
    ∙ ap (λ (told : List GroupAfter). replicate (length x.copies) (repeat_of t) ++ told) (often_run (left_by t) sent may.1))

-- repeats leave what the message before them left
repeats_left : (t : GroupAfter) (n : ℕ) (told : List GroupAfter) → state_left left_by (left_by t) (replicate n (repeat_of t) ++ told) ≡ state_left left_by (left_by t) told
repeats_left t zero told = refl
repeats_left t (suc n) told = repeats_left t n told

pub often_left : (s : GroupAndBuffer) (told : List GroupAfter) (sent : List Sent) → state_left left_by s (with_repeats repeat_of told sent) ≡ state_left left_by s told
often_left s [] sent = refl
often_left s (t ∷ told) [] = refl
often_left s (t ∷ told) (x ∷ sent) = repeats_left t (length x.copies) (with_repeats repeat_of told sent) ∙ often_left (left_by t) told sent

-- FOR ANY RUN OF MESSAGES, copies behind those that were taken are repeats, and all else is as it was
pub repeats_harmless : (s : GroupAndBuffer) (sent : List Sent) (joins copies : List JoinResult) → Joins s (once sent) joins → AllMayRepeat (map told_result joins) sent → Joins s (often sent) copies
    → Harmless s sent (map told_result joins) (map told_result copies)
repeats_harmless s sent joins copies did may again =
    let plain : map told_result joins ≡ joins_of s (once sent) = run_told join_message left_by told_result s (once sent) joins did in
    let told = run_told join_message left_by told_result s (often sent) copies again ∙ often_run s sent (subst (λ (t : List GroupAfter). AllMayRepeat t sent) plain may)
    ∙ ap (λ (t : List GroupAfter). with_repeats repeat_of t sent) (sym plain) in
    record {
      answered = told;
      left = ap (state_left left_by s) told ∙ often_left s (map told_result joins) sent;
    }

-- ---- a First leaves to any state of its number what it leaves to the idle one

-- what a repeat has in common with the message last joined on
repeat_parts : (g : Group) (m : Fields) (s buffer : List ℕ) → is_repeat g m s buffer ≡ true
    → (g.phase ≡ Gathering) × (m.ci ≡ g.ci) × (m.first ≡ eqb g.messages 1) × (m.last ≡ false) × (s ≡ last_joined g buffer)
unfolding is_repeat
repeat_parts g m s buffer e =
    let p = not (is_idle g.phase) in
    let one = eqb g.messages 1 in
    let t = (and-eq-true_iff (p && eqb m.ci g.ci && beq m.first one && not m.last) (same_as s (last_joined g buffer))).0 e in
    let u = (and-eq-true_iff (p && eqb m.ci g.ci && beq m.first one) (not m.last)).0 t.0 in
    let v = (and-eq-true_iff (p && eqb m.ci g.ci) (beq m.first one)).0 u.0 in
    let w = (and-eq-true_iff p (eqb m.ci g.ci)).0 v.0 in
    (gathers g.phase w.0, eqb-true m.ci g.ci w.1, beq_true m.first one v.1, not-true m.last u.1, same_true s (last_joined g buffer) t.1)

module _ (g : Group) (m : Fields) (s buffer : List ℕ) (rule : keeps_rule g ≡ true) (room : 3825 ≤ length buffer) (first : m.first ≡ true) where
  -- a First that is a repeat, joined on to the idle state, makes this very state
  first_rejoined : is_repeat g m s buffer ≡ true → joined_on (idle g.number) m s buffer ≡ group_after taken g buffer
  unfolding joined_on
  first_rejoined e =
      let p = repeat_parts g m s buffer e in
      let one = eqb-true g.messages 1 (sym p.2 ∙ first) in
      let all = only_one g.held g.messages g.last_length (omega (arith, one)) (rule_gathered g rule p.0).length in
      let start : g.held - g.last_length ≡ 0 = omega (arith, all) in
      let bytes : s ≡ take g.last_length buffer = p.4 ∙ ap (λ (i : ℕ). take g.last_length (drop i buffer)) start in
      let size : length s ≡ g.last_length = ap length bytes ∙ length-take-le g.last_length buffer (omega (arith, rule_room g rule)) in
      let held : 0 + length s ≡ g.held = omega (arith, size, all) in
      let count : 0 + 1 ≡ g.messages = omega (arith, one) in
      let laid : paste buffer 0 s (length s) ≡ buffer =
      ap (λ (r : List ℕ). r ++ drop (0 + length s) buffer) (take-length s ∙ bytes)
      ∙ ap (λ (i : ℕ). take g.last_length buffer ++ drop i buffer) (held ∙ sym all)
      ∙ take-append-drop g.last_length buffer in
      rw p.3 (λ i. group_after taken (group_with g.number (sym p.0 i) (held i) (count i) (p.1 i) (size i)) (laid i))

  module _ (fits : message_fits m (length s) ≡ true) (ours : (not (eqb m.number g.number) || m.command) ≡ false) where
    idle_joins : join_of (idle g.number) m s buffer ≡ joined_on (idle g.number) m s buffer
    idle_joins = sym (begins (idle g.number) m s buffer room (idle_rule g.number (rule_number g rule)) fits ours (idle_new g.number m s buffer) first)

    -- A FIRST LEAVES TO ANY STATE OF ITS NUMBER what it leaves to the idle one; only the answer is another where it is a repeat
    pub first_as_idle : let t = join_of (idle g.number) m s buffer in join_of g m s buffer ≡ group_after (cond (is_repeat g m s buffer) repeat t.answer) t.group t.buffer
    first_as_idle = by_repeat (is_repeat g m s buffer) refl
      where
        by_repeat : (b : Bool) → is_repeat g m s buffer ≡ b → let t = join_of (idle g.number) m s buffer in join_of g m s buffer ≡ group_after (cond b repeat t.answer) t.group t.buffer
        by_repeat true e =
            sym (once_more g m s buffer room rule fits ours e) ∙ sym (ap repeat_of (idle_joins ∙ first_rejoined e))
        by_repeat false e = sym (begins g m s buffer room rule fits ours e first) ∙ sym idle_joins
