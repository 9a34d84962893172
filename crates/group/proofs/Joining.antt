-- The step's definition, test by test, as the code makes them. Assumes nothing.
use Prim.Native.Nat.{ℕ, ◌+◌, ◌%◌, ◌≤◌, ◌<◌}
use mathlib.Core.Path.{◌≡◌, refl, sym, ap, ◌∙◌}
use mathlib.Core.Bool.{Bool, true, false, not, cond, ◌||◌}
use mathlib.Core.List.{List}
use borrow.Author.Tests.{le-leb, lt-leb, ltb-true}
use lib.Dec.{eqb, ltb}
use lib.ListN.{length}
use Rattle.answers.specs.Numbers as numbers
use Rattle.answers.specs.Rules.{unless}
use Rattle.channel.specs.declared.Fields.{Fields}
use Rattle.group.specs.Answers.{repeat, refused, GroupAfter, group_after}
use Rattle.group.specs.State.{idle, keeps_rule, message_fits, is_idle, is_repeat, joined_on, join_of}
use Rattle.group.specs.Follows.{follows_of}
use Rattle.group.specs.declared.Group.{Group}
use Rattle.channel.proofs.Order.{refused_or, in_order, all_passed}

-- two tests with one answer, as one on either
either : {A : Type 0} (a k : Bool) (x y : A) → unless a x (unless (not k) x y) ≡ unless (not (not a || k)) x y
either true true x y = refl
either true false x y = refl
either false k x y = refl

-- what is not turned away has room for a message
pub few : (g : Group) (m : Fields) → numbers.accepted ≡ follows_of g m → g.messages < 15
few g m e = ltb-true g.messages 15 (all_passed (not (is_idle g.phase)) (eqb m.ci ((g.ci + 1) % 4)) (ltb g.messages 15) 8 8 9 e).1

module _ (g : Group) (m : Fields) (s buffer : List ℕ) where
  -- a repeat; then by First, by the phase, by CI and by the number of messages
  abbrev onward : GroupAfter
  onward =
      cond (is_repeat g m s buffer) (group_after repeat g buffer)
      (cond m.first (joined_on (idle g.number) m s buffer)
      (unless (not (is_idle g.phase)) (group_after (refused 8) (idle g.number) buffer)
      (unless (eqb m.ci ((g.ci + 1) % 4)) (group_after (refused 8) (idle g.number) buffer)
      (unless (ltb g.messages 15) (group_after (refused 9) (idle g.number) buffer)
      (joined_on g m s buffer)))))

  pub short : length buffer < 3825 → group_after (refused 10) g buffer ≡ join_of g m s buffer
  unfolding join_of
  short l = rw (lt-leb _ _ l)

  module _ (room : 3825 ≤ length buffer) where
    pub outside : keeps_rule g ≡ false → group_after (refused 11) g buffer ≡ join_of g m s buffer
    unfolding join_of
    outside e = rw (le-leb _ _ room, e)

    module _ (rule : keeps_rule g ≡ true) where
      pub too_wide : message_fits m (length s) ≡ false → group_after (refused 11) g buffer ≡ join_of g m s buffer
      unfolding join_of
      too_wide e = rw (le-leb _ _ room, rule, e)

      module _ (fits : message_fits m (length s) ≡ true) where
        by_number : join_of g m s buffer ≡ unless (not (not (eqb m.number g.number) || m.command)) (group_after (refused 13) g buffer) onward
        unfolding join_of
        by_number = rw (le-leb _ _ room, rule, fits) (either (eqb m.number g.number) m.command _ _)

        pub other : (not (eqb m.number g.number) || m.command) ≡ true → group_after (refused 13) g buffer ≡ join_of g m s buffer
        other e = sym (by_number ∙ rw e)

        module _ (ours : (not (eqb m.number g.number) || m.command) ≡ false) where
          pub once_more : is_repeat g m s buffer ≡ true → group_after repeat g buffer ≡ join_of g m s buffer
          once_more e = sym (by_number ∙ rw (ours, e))

          module _ (new : is_repeat g m s buffer ≡ false) where
            pub begins : m.first ≡ true → joined_on (idle g.number) m s buffer ≡ join_of g m s buffer
            begins e = sym (by_number ∙ rw (ours, new, e))

            module _ (later : m.first ≡ false) where
              by_state : join_of g m s buffer ≡ refused_or (follows_of g m) (λ n. group_after (refused n) (idle g.number) buffer) (joined_on g m s buffer)
              unfolding joined_on
              by_state =
                  by_number
                  ∙ rw (ours, new, later) (in_order (not (is_idle g.phase)) (eqb m.ci ((g.ci + 1) % 4)) (ltb g.messages 15) 8 8 9 (λ n. group_after (refused n) (idle g.number) buffer) (joined_on g m s buffer))

              pub turned_away : (n : ℕ) → numbers.refused n ≡ follows_of g m → group_after (refused n) (idle g.number) buffer ≡ join_of g m s buffer
              turned_away n e = ap (λ (p : numbers.Paper). refused_or p (λ n. group_after (refused n) (idle g.number) buffer) (joined_on g m s buffer)) e ∙ sym by_state

              pub joins : numbers.accepted ≡ follows_of g m → joined_on g m s buffer ≡ join_of g m s buffer
              joins e = ap (λ (p : numbers.Paper). refused_or p (λ n. group_after (refused n) (idle g.number) buffer) (joined_on g m s buffer)) e ∙ sym by_state
