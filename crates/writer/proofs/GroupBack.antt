-- WHAT THE GROUP WRITER WRITES READS BACK: through a ready channel that expects the starting SC, and each message through a group state of that number.
-- And so do a group's messages with copies behind each but the last, as the message writer writes one after the other. Assumes nothing.
use Prim.Native.Nat.{ℕ, zero, suc, ◌+◌, ◌-◌, ◌*◌, ◌/◌, ◌%◌, ◌≤◌, ◌<◌}
use mathlib.Core.Path.{◌≡◌, refl, sym, ap, ap₂, ◌∙◌, subst}
use mathlib.Core.Bool.{Bool, true, false, not, cond, ◌||◌, true≢false}
use mathlib.Core.List.{List, [], ◌∷◌, ◌++◌, map, map-append, append_assoc}
use native.Mathlib.Numerals.{add-one}
use native.Mathlib.Omega.{arith}
use borrow.Author.Tests.{eq-eqb, lt-ltb}
use lib.Dec.{eqb, leb, eqb-suc-zero}
use lib.ListN.{length, take, drop, replicate, length-append, length-take, length-drop, take-append-drop}
use lib.Seq.{paste, length-paste, take_all}
use Rattle.answers.specs.Numbers.{accepted}
use Rattle.answers.specs.Rules.{state_left}
use Rattle.answers.proofs.Runs.{run_told, run_append, left_append}
use Rattle.channel.specs.Answers as channel
use Rattle.channel.specs.Answers.{ChannelAfter, told_step}
use Rattle.channel.specs.Layer4.{size_of, blocks_for}
use Rattle.channel.specs.State.{step_of}
use Rattle.channel.specs.declared.Channel.{Channel}
use Rattle.channel.specs.declared.Header.{Header}
use Rattle.channel.specs.declared.Stepped.{Stepped}
use Rattle.channel.proofs.Laws.{rule_sc}
use Rattle.group.specs.Answers.{Outcome, taken, repeat, whole, refused, GroupAfter, group_after}
use Rattle.group.specs.State.{group_with, idle, keeps_rule, message_fits, is_repeat, joined_on, join_of}
use Rattle.group.specs.Follows.{follows_of}
use Rattle.group.specs.Leading.{Message, GroupAndBuffer, JoinResult, told_result, join_message, left_by, Joins}
use Rattle.group.specs.Repeats.{Sent, once, often, TwoBits, MayRepeat, AllMayRepeat, with_repeats, repeat_of}
use Rattle.group.specs.declared.Group.{Group}
use Rattle.group.specs.declared.Phase.TheVariants.{Gathering}
use Rattle.group.proofs.Joining as joining
use Rattle.group.proofs.Laws.{fits_true}
use Rattle.group.proofs.Rule.{idle_rule, gathering_rule}
use Rattle.group.proofs.Leading.{front}
use Rattle.group.proofs.Repeats.{joins_of, often_run, often_left, idle_new, stepped_new, last_new, first_as_idle}
use Rattle.writer.specs.Reading.{pieces, Steps, answers_in, channel_left, Listens, message_in, messages_in, AllRead, first_is_repeat, group_answers, WroteMessage, WroteAll, blocks_left, LastOnce, GroupBack}
use Rattle.writer.specs.Message.{header_for, message_blocks, flat, LeavesBlocks, wrote_answer, wrote_blocks}
use Rattle.writer.specs.Group.{series_in_widths, group_fields, messages_for, messages_of, group_messages, blocks_of, group_blocks, write_group_of}
use Rattle.writer.specs.declared.Series.{Series}
use Rattle.std.specs.Prelude.{Result}
use Rattle.answers.specs.declared.Refusal.{Refusal}
use Rattle.writer.proofs.Runs.{leaves, steps_of, steps_told, run_elim}
use Rattle.writer.proofs.ReadBack.{blocks_back}
use Rattle.writer.proofs.Laws.{within_widths, within_true}
use Rattle.writer.proofs.Writing.{flat_append, message_pieces}
use Rattle.writer.proofs.GroupWriting.{full_messages, group_pieces}

-- ---- the channel: blocks to messages

messages_append : (xs ys : List ChannelAfter) → messages_in (xs ++ ys) ≡ messages_in xs ++ messages_in ys
messages_append xs ys =
    let f : ChannelAfter → List Message = λ t. message_in t.answer t.channel in
    ap flat (map-append f xs ys) ∙ flat_append (map f xs) (map f ys)

-- "taken" .. "message" is one message
one_read : (n : ℕ) (h : Header) (c : Channel) (blocks : List (List ℕ)) → answers_in (steps_of c blocks) ≡ replicate n channel.taken ++ (channel.message h ∷ [])
    → messages_in (steps_of c blocks) ≡ message_in (channel.message h) (channel_left c (steps_of c blocks))
one_read n h =
    run_elim h (λ (k : ℕ) (c : Channel) (blocks : List (List ℕ)). messages_in (steps_of c blocks) ≡ message_in (channel.message h) (channel_left c (steps_of c blocks)))
    (λ c b e. ap (λ (o : channel.Outcome). message_in o (step_of c b).channel ++ []) e)
    (λ k c b blocks e rest. ap (λ (o : channel.Outcome). message_in o (step_of c b).channel ++ messages_in (steps_of (step_of c b).channel blocks)) e ∙ rest)
    n

-- messages that the writer takes
abbrev Fits : Message → Type 0
Fits m = (m.fields.ri ≤ 3) × (m.fields.ci ≤ 3) × (m.fields.number ≤ 16383) × (length m.bytes ≤ 255)

abbrev AllFit : List Message → Type 0
AllFit [] = Unit
AllFit (m ∷ messages) = Fits m × AllFit messages

-- the blocks of messages are read as these messages, and the channel expects the SC after the last block's
messages_read : (di : Bool) (messages : List Message) (c : Channel) → AllFit messages → Listens c
    → let blocks = blocks_of di c.expected messages in AllRead messages (length blocks) c (steps_of c blocks)
messages_read di [] c fit l = record { answers = refl; given = refl; listens = l; expected = omega (arith, rule_sc c l.rule) }
messages_read di (m ∷ messages) c fit l =
    let f = fit.0 in
    let d = length m.bytes in
    let B = message_blocks m.fields di c.expected m.bytes in
    let R = blocks_back m.fields di m.bytes c l (within_true m.fields c.expected d (omega (arith, f)) (omega (arith, f)) (omega (arith, f)) (rule_sc c l.rule) f.3) in
    let T = steps_of c B in
    let c₁ = channel_left c T in
    let G = blocks_of di c₁.expected messages in
    let U = steps_of c₁ G in
    let ih = messages_read di messages c₁ fit.1 R.listens in
    let one : messages_in T ≡ m ∷ [] =
    one_read (blocks_for (size_of (leb 512 m.fields.number) + d) - 1) (header_for m.fields d) c B R.answers ∙ ap (λ (b : List ℕ). record { fields = m.fields; bytes = b } ∷ []) R.stands in
    let Read : ℕ → Type 0 = λ i. let blocks = B ++ blocks_of di i messages in AllRead (m ∷ messages) (length blocks) c (steps_of c blocks) in
    subst Read R.expected
    (rw (run_append step_of leaves c B G, length-append B G)
    (record {
      answers = map-append _ T U ∙ ap₂ (λ (xs ys : List channel.Outcome). xs ++ ys) R.answers ih.answers;
      given = messages_append T U ∙ ap₂ (λ (xs ys : List Message). xs ++ ys) one ih.given;
      listens = rw (left_append leaves c T U) ih.listens;
      expected = ap (λ (e : Channel). e.expected) (left_append leaves c T U) ∙ ih.expected ∙ omega (arith, R.expected);
    }))

-- those of a group
series_fit : (k : ℕ) (first : Bool) (number ri ci : ℕ) (s : List ℕ) → number ≤ 16383 → ri ≤ 3 → ci ≤ 3 → AllFit (messages_of k first number ri ci s)
series_fit zero first number ri ci s hn hr hc = tt
series_fit (suc k) first number ri ci s hn hr hc =
    let few : length (take 255 s) ≤ 255 = omega (arith, length-take 255 s) in
    let next : (ci + 1) % 4 ≤ 3 = omega arith in
    ((hr, hc, hn, few), series_fit k false number ri ((ci + 1) % 4) (drop 255 s) hn hr next)

-- those that the message writer accepted, one after the other, and their blocks
all_wrote : (di : Bool) (sc : ℕ) (messages : List Message) (written : List WroteMessage) → WroteAll di sc messages written → AllFit messages × (blocks_left written ≡ blocks_of di sc messages)
all_wrote di sc [] [] did = (tt, refl)
all_wrote di sc [] (o ∷ written) did = absurd did
all_wrote di sc (m ∷ messages) [] did = absurd did
all_wrote di sc (m ∷ messages) (o ∷ written) did =
    let p = message_pieces m.fields di sc m.bytes o.before o.after o.wrote did.0.2 did.0.1 in
    let b = within_widths p.0 in
    let ih = all_wrote di ((o.sc + wrote_blocks o.wrote) % 16) messages written did.1 in
    let next : (o.sc + wrote_blocks o.wrote) % 16 ≡ (sc + length (message_blocks m.fields di sc m.bytes)) % 16 = λ i. (did.0.0 i + p.1 i) % 16 in (
      ((omega (arith, b), omega (arith, b), omega (arith, b), b.4), ih.0),
      ap₂ (λ (xs ys : List (List ℕ)). xs ++ ys) p.2 (ih.1 ∙ ap (λ (k : ℕ). blocks_of di k messages) next),
    )

-- ---- the group state: messages to the group

-- the first of several messages may be a repeat
opened : (again : Bool) (k n : ℕ) (o : Outcome) (rest : List Outcome) → (k ≡ 0 → again ≡ false) → o ∷ rest ≡ group_answers false k n → cond again repeat o ∷ rest ≡ group_answers again k n
opened false k n o rest h e = e
opened true zero n o rest h e = absurd (true≢false (h refl))
opened true (suc k) n o rest h e = let later : rest ≡ group_answers false k n = cc in ap (λ (a : List Outcome). repeat ∷ a) later

-- k messages and the last of a group, from any state of its number: only the first answer may be another than from the idle one
record SeriesJoins (number k : ℕ) (s : List ℕ) (g : GroupAndBuffer) (messages : List Message) (told : List GroupAfter) : Type 0 where
  answers : map (λ t. t.answer) told ≡ group_answers (first_is_repeat g messages) k (length s)
  state : (state_left left_by g told).group ≡ idle number
  bytes : take (length s) (state_left left_by g told).buffer ≡ s

-- a message that is joined on: the state and the buffer that it leaves
module _ (number ri : ℕ) (small_number : number ≤ 16383) (small_ri : ri ≤ 3) where
  allowed : (ci d : ℕ) (first last : Bool) → ci ≤ 3 → d ≤ 255 → message_fits (group_fields number ri ci first last) d ≡ true
  allowed ci d first last hc hd = fits_true (group_fields number ri ci first last) d small_number hd small_ri hc

  -- not First: gathering, CI one more, less than fifteen messages
  follows : (held messages ci d : ℕ) (last : Bool) (s buffer : List ℕ) → keeps_rule (group_with number Gathering held messages ci d) ≡ true → ci ≤ 3 → length s ≤ 255 → messages < 15 → 3825 ≤ length buffer
      → join_of (group_with number Gathering held messages ci d) (group_fields number ri ((ci + 1) % 4) false last) s buffer
      ≡ joined_on (group_with number Gathering held messages ci d) (group_fields number ri ((ci + 1) % 4) false last) s buffer
  follows held messages ci d last s buffer rule hc hd hm room =
      let g = group_with number Gathering held messages ci d in
      let m = group_fields number ri ((ci + 1) % 4) false last in
      let ours : (not (eqb number number) || false) ≡ false = rw (eq-eqb number number refl) in
      let accept : accepted ≡ follows_of g m = rw (eq-eqb ((ci + 1) % 4) ((ci + 1) % 4) refl, lt-ltb _ _ hm) in
      sym (joining.joins g m s buffer room rule (allowed ((ci + 1) % 4) (length s) false last (omega arith) hd) ours (stepped_new g m s buffer (λ e. omega (arith, e))) refl accept)

  record SeriesJoined (k : ℕ) (s : List ℕ) (base : Group) (from : GroupAndBuffer) (told : List GroupAfter) : Type 0 where
    answers : map (λ t. t.answer) told ≡ group_answers false k (base.held + length s)
    state : (state_left left_by from told).group ≡ idle number
    bytes : take (base.held + length s) (state_left left_by from told).buffer ≡ take base.held from.buffer ++ s

  series_joined : (k : ℕ) (first : Bool) (ci : ℕ) (s : List ℕ) (from : GroupAndBuffer) (base : Group) → ci ≤ 3 → length s ≤ 255 * suc k → 3825 ≤ length from.buffer
      → base.number ≡ number → base.held ≤ 255 * base.messages → base.messages + suc k ≤ 15
      → join_of from.group (group_fields number ri ci first (eqb k 0)) (take 255 s) from.buffer ≡ joined_on base (group_fields number ri ci first (eqb k 0)) (take 255 s) from.buffer
      → SeriesJoined k s base from (joins_of from (messages_of (suc k) first number ri ci s))
  unfolding joined_on
  series_joined zero first ci s from base hc hs room is hh hm e =
      let all : take 255 s ≡ s = take_all 255 s (omega arith) in
      let t = group_after (whole (base.held + length s)) (idle number) (paste from.buffer base.held s (length s)) in
      let l : join_of from.group (group_fields number ri ci first true) (take 255 s) from.buffer ≡ t =
      e ∙ (λ i. group_after (whole (base.held + length (all i))) (idle (is i)) (paste from.buffer base.held (all i) (length (all i)))) in
      subst (λ (x : GroupAfter). SeriesJoined 0 s base from (x ∷ [])) (sym l) (record { answers = refl; state = refl; bytes = front from.buffer s base.held (omega arith) })
  series_joined (suc j) first ci s from base hc hs room is hh hm e =
      let part = take 255 s in
      let rest = drop 255 s in
      let few : length part ≤ 255 = omega (arith, length-take 255 s) in
      let held = base.held + length part in
      let next = group_with number Gathering held (base.messages + 1) ci (length part) in
      let laid = paste from.buffer base.held part (length part) in
      let t = group_after taken next laid in
      let l : join_of from.group (group_fields number ri ci first (eqb (suc j) 0)) part from.buffer ≡ t =
      e ∙ (rw (eqb-suc-zero j) (λ i. group_after taken (group_with (is i) Gathering held (base.messages + 1) ci (length part)) laid)) in
      let long : length laid ≡ length from.buffer = length-paste from.buffer base.held part (length part) (omega arith) (omega arith) in
      let rule = gathering_rule number base.held base.messages (length part) ci small_number hh (omega arith) few hc in
      let few_rest : length (take 255 rest) ≤ 255 = omega (arith, length-take 255 rest) in
      let less : length rest ≤ 255 * suc j = rw length-drop (omega arith) in
      let messages = messages_of (suc j) false number ri ((ci + 1) % 4) rest in
      let ih = series_joined j false ((ci + 1) % 4) rest (left_by t) next (omega arith) less (omega arith) refl (omega arith) (omega arith)
      (follows held (base.messages + 1) ci (length part) (eqb j 0) (take 255 rest) laid rule hc few_rest (omega arith) (omega arith)) in
      let cut : part ++ rest ≡ s = take-append-drop 255 s in
      let total : held + length rest ≡ base.held + length s = omega (arith, ap length cut, length-append part rest) in
      subst (λ (x : GroupAfter). SeriesJoined (suc j) s base from (x ∷ joins_of (left_by x) messages)) (sym l)
      (record {
        answers = ap (λ (a : List Outcome). taken ∷ a) (ih.answers ∙ ap (group_answers false j) total);
        state = ih.state;
        bytes =
            ap (λ (n : ℕ). take n (state_left left_by (left_by t) (joins_of (left_by t) messages)).buffer) (sym total)
            ∙ ih.bytes
            ∙ ap (λ (r : List ℕ). r ++ rest) (front from.buffer part base.held (omega arith))
            ∙ append_assoc (take base.held from.buffer) part rest
            ∙ ap (λ (r : List ℕ). take base.held from.buffer ++ r) cut;
      })

  -- from any state of the number that keeps its rule
  series_joins : (k ci : ℕ) (s : List ℕ) (g : GroupAndBuffer) → ci ≤ 3 → length s ≤ 255 * suc k → suc k ≤ 15 → keeps_rule g.group ≡ true → g.group.number ≡ number → 3825 ≤ length g.buffer
      → let messages = messages_of (suc k) true number ri ci s in SeriesJoins number k s g messages (joins_of g messages)
  series_joins k ci s g hc hs hk rule is room =
      let m = group_fields number ri ci true (eqb k 0) in
      let part = take 255 s in
      let few : length part ≤ 255 = omega (arith, length-take 255 s) in
      let fits = allowed ci (length part) true (eqb k 0) hc few in
      let ours : (i : ℕ) → i ≡ number → (not (eqb number i) || false) ≡ false = λ i e. rw (eq-eqb number i (sym e)) in
      let from : GroupAndBuffer = record { group = idle number; buffer = g.buffer } in
      let t = join_message from (record { fields = m; bytes = part }) in
      let first : t ≡ joined_on (idle number) m part g.buffer =
      sym (joining.begins (idle number) m part g.buffer room (idle_rule number small_number) fits (ours number refl) (idle_new number m part g.buffer) refl) in
      let J = series_joined k true ci s from (idle number) hc hs room refl (omega arith) (omega arith) first in
      let again = is_repeat g.group m part g.buffer in
      let rest = messages_of k false number ri ((ci + 1) % 4) (drop 255 s) in
      let none : 0 + length s ≡ length s = omega arith in
      let other : join_of g.group m part g.buffer ≡ group_after (cond again repeat t.answer) t.group t.buffer =
      first_as_idle g.group m part g.buffer rule room refl fits (ours g.group.number is)
      ∙ ap (λ (i : ℕ). let u = join_of (idle i) m part g.buffer in group_after (cond again repeat u.answer) u.group u.buffer) is in
      subst (λ (u : GroupAfter). SeriesJoins number k s g (record { fields = m; bytes = part } ∷ rest) (u ∷ joins_of (left_by u) rest)) (sym other)
      (record {
        answers = opened again k (length s) t.answer _ (λ e. last_new g.group m part g.buffer (eq-eqb k 0 e)) (J.answers ∙ ap (group_answers false k) none);
        state = J.state;
        bytes = ap (λ (i : ℕ). take i (state_left left_by (left_by t) (joins_of (left_by t) rest)).buffer) (sym none) ∙ J.bytes;
      })

-- ---- copies behind the messages but the last

may_none : (o : Outcome) (copies : List ℕ) → copies ≡ [] → MayRepeat o copies
may_none taken copies e = subst TwoBits (sym e) tt
may_none repeat copies e = subst TwoBits (sym e) tt
may_none (whole n) copies e = e
may_none (refused n) copies e = e

may_some : (again : Bool) (copies : List ℕ) → TwoBits copies → MayRepeat (cond again repeat taken) copies
may_some true copies small = small
may_some false copies small = small

all_may : (k n : ℕ) (again : Bool) (g : GroupAndBuffer) (sent : List Sent) → map (λ t. t.answer) (joins_of g (once sent)) ≡ group_answers again k n → LastOnce sent → AllMayRepeat (joins_of g (once sent)) sent
all_may k n again g [] e l = tt
all_may k n again g (x ∷ []) e l = (may_none (join_message g x.message).answer x.copies l, tt)
all_may zero n again g (x ∷ y ∷ sent) e l = let z : ◌≡◌ {A = ℕ} 0 1 = cc in absurd (omega arith)
all_may (suc k) n again g (x ∷ y ∷ sent) e l =
    let t = join_message g x.message in
    let o : t.answer ≡ cond again repeat taken = cc in
    let rest : map (λ u. u.answer) (joins_of (left_by t) (once (y ∷ sent))) ≡ group_answers false k n = cc in
    (subst (λ (a : Outcome). MayRepeat a x.copies) (sym o) (may_some again x.copies l.0), all_may k n false (left_by t) (y ∷ sent) rest l.1)

-- the answers alone
copies_answered : (t : GroupAfter) (n : ℕ) (told : List GroupAfter) → map (λ u. u.answer) (replicate n (repeat_of t) ++ told) ≡ replicate n repeat ++ map (λ u. u.answer) told
copies_answered t zero told = refl
copies_answered t (suc n) told = ap (λ (a : List Outcome). repeat ∷ a) (copies_answered t n told)

repeats_answered : (told : List GroupAfter) (sent : List Sent) → map (λ t. t.answer) (with_repeats repeat_of told sent) ≡ with_repeats (λ _. repeat) (map (λ t. t.answer) told) sent
repeats_answered [] sent = refl
repeats_answered (t ∷ told) [] = refl
repeats_answered (t ∷ told) (x ∷ sent) =
    ap (λ (a : List Outcome). t.answer ∷ a)
    (copies_answered t (length x.copies) (with_repeats repeat_of told sent) ∙ ap (λ (a : List Outcome). replicate (length x.copies) repeat ++ a) (repeats_answered told sent))

-- ---- both

-- the messages of a group through a group state
group_joins : (x : Series) (s : List ℕ) (g : GroupAndBuffer) → series_in_widths x (length s) ≡ true → keeps_rule g.group ≡ true → g.group.number ≡ x.number → 3825 ≤ length g.buffer
    → SeriesJoins x.number (messages_for (length s) - 1) s g (group_messages x s) (joins_of g (group_messages x s))
group_joins x s g fits rule same room =
    let b = within_widths fits in
    let k = (length s - 1) / 255 in
    let f = full_messages (length s) b.4 in
    let less : k + 1 - 1 ≡ k = omega arith in
    let J = series_joins x.number x.ri (omega arith) (omega arith) k x.ci s g (omega arith) (omega arith) (omega arith) rule same room in
    subst (λ (n : ℕ). let messages = messages_of n true x.number x.ri x.ci s in SeriesJoins x.number (k + 1 - 1) s g messages (joins_of g messages)) (sym (add-one k))
    (subst (λ (j : ℕ). let messages = messages_of (suc k) true x.number x.ri x.ci s in SeriesJoins x.number j s g messages (joins_of g messages)) (sym less) J)

group_fit : (x : Series) (s : List ℕ) → series_in_widths x (length s) ≡ true → AllFit (group_messages x s)
group_fit x s fits = let b = within_widths fits in series_fit (messages_for (length s)) true x.number x.ri x.ci s (omega arith) (omega arith) (omega arith)

-- A GROUP WRITTEN READS BACK
pub group_back : (x : Series) (s before after : List ℕ) (w : Result ℕ Refusal) (c : Channel) (steps : List Stepped) (g : GroupAndBuffer) (joins : List JoinResult)
    → LeavesBlocks (write_group_of x s (length before)) w before after → wrote_answer w ≡ accepted
    → Listens c → c.expected ≡ x.sc → Steps c (pieces (wrote_blocks w) after) steps
    → keeps_rule g.group ≡ true → g.group.number ≡ x.number → 3825 ≤ length g.buffer → Joins g (messages_in (map told_step steps)) joins
    → GroupBack x.number s (group_messages x s) (wrote_blocks w) c (map told_step steps) (group_answers (first_is_repeat g (group_messages x s)) (messages_for (length s) - 1) (length s)) g (map told_result joins)
unfolding group_blocks
group_back x s before after w c steps g joins wrote took l sc did rule same room joined =
    let p = group_pieces x s before after w wrote took in
    let blocks : pieces (wrote_blocks w) after ≡ blocks_of x.di c.expected (group_messages x s) = p.2 ∙ λ i. blocks_of x.di (sym sc i) (group_messages x s) in
    let count : wrote_blocks w ≡ length (blocks_of x.di c.expected (group_messages x s)) = p.1 ∙ ap length (sym p.2 ∙ blocks) in
    let read : AllRead (group_messages x s) (wrote_blocks w) c (map told_step steps) =
    rw (steps_told c (pieces (wrote_blocks w) after) steps did, blocks, count) (messages_read x.di (group_messages x s) c (group_fit x s p.0) l) in
    let told : map told_result joins ≡ joins_of g (group_messages x s) = run_told join_message left_by told_result g (messages_in (map told_step steps)) joins joined ∙ ap (joins_of g) read.given in
    let J : SeriesJoins x.number (messages_for (length s) - 1) s g (group_messages x s) (map told_result joins) = rw told (group_joins x s g p.0 rule same room) in
    record { read = read; answers = J.answers; state = J.state; bytes = J.bytes }

-- AND WITH EACH MESSAGE BUT THE LAST SENT ANY NUMBER OF TIMES, as the message writer writes one after the other
pub group_back_with_repeats : (x : Series) (s : List ℕ) (sent : List Sent) (written : List WroteMessage) (c : Channel) (steps : List Stepped) (g : GroupAndBuffer) (joins : List JoinResult)
    → series_in_widths x (length s) ≡ true → once sent ≡ group_messages x s → LastOnce sent → WroteAll x.di x.sc (often sent) written
    → Listens c → c.expected ≡ x.sc → Steps c (blocks_left written) steps
    → keeps_rule g.group ≡ true → g.group.number ≡ x.number → 3825 ≤ length g.buffer → Joins g (messages_in (map told_step steps)) joins
    → GroupBack x.number s (often sent) (length (blocks_left written)) c (map told_step steps)
    (with_repeats (λ _. repeat) (group_answers (first_is_repeat g (group_messages x s)) (messages_for (length s) - 1) (length s)) sent) g (map told_result joins)
group_back_with_repeats x s sent written c steps g joins fits is last wrote l sc did rule same room joined =
    let W = all_wrote x.di x.sc (often sent) written wrote in
    let read : AllRead (often sent) (length (blocks_left written)) c (map told_step steps) =
    rw (steps_told c (blocks_left written) steps did, W.1, ← sc) (messages_read x.di (often sent) c W.0 l) in
    let J : SeriesJoins x.number (messages_for (length s) - 1) s g (group_messages x s) (joins_of g (once sent)) = rw is (group_joins x s g fits rule same room) in
    let told : map told_result joins ≡ with_repeats repeat_of (joins_of g (once sent)) sent =
    run_told join_message left_by told_result g (messages_in (map told_step steps)) joins joined
    ∙ ap (joins_of g) read.given
    ∙ often_run g sent (all_may (messages_for (length s) - 1) (length s) (first_is_repeat g (group_messages x s)) g sent J.answers last) in
    let left : state_left left_by g (map told_result joins) ≡ state_left left_by g (joins_of g (once sent)) = ap (state_left left_by g) told ∙ often_left g (joins_of g (once sent)) sent in
    record {
      read = read;
      answers = ap (map (λ t. t.answer)) told ∙ repeats_answered (joins_of g (once sent)) sent ∙ ap (λ (a : List Outcome). with_repeats (λ _. repeat) a sent) J.answers;
      state = ap (λ (u : GroupAndBuffer). u.group) left ∙ J.state;
      bytes = ap (λ (u : GroupAndBuffer). take (length s) u.buffer) left ∙ J.bytes;
    }
