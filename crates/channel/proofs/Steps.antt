-- The step's definition, test by test, on the header as the code has it. Assumes nothing.
use Prim.Native.Nat.{ℕ, ◌+◌, ◌%◌, ◌≤◌, ◌<◌}
use mathlib.Core.Path.{◌≡◌, sym, ap, ◌∙◌}
use mathlib.Core.Bool.{Bool, true, false, not, ◌&&◌}
use mathlib.Core.List.{List}
use borrow.Author.Tests.{le-ltb, lt-ltb, eqb-true}
use lib.Dec.{eqb, ltb}
use lib.ListN.{length, drop}
use lib.Seq.{paste}
use Rattle.answers.specs.Numbers.{Paper, accepted}
use Rattle.answers.specs.Numbers as numbers
use Rattle.answers.specs.Rules.{unless}
use Rattle.answers.proofs.Rules.{unless_and}
use Rattle.header.specs.Header.{total, holds}
use Rattle.channel.specs.Answers.{refused, ChannelAfter, channel_after}
use Rattle.channel.specs.Layer3.{layer3, header_of, si_lch_of, lf_of, sc_of}
use Rattle.channel.specs.Headers.{header_answer}
use Rattle.channel.specs.State.{keeps_rule, is_waiting, as_waiting, after_joining, step_of}
use Rattle.channel.specs.declared.Channel.{Channel}
use Rattle.channel.proofs.Order.{refused_or, in_order, all_passed}

pub outside : (c : Channel) (information : List ℕ) → keeps_rule c ≡ false → channel_after (refused 11) c ≡ step_of c information
unfolding step_of
outside c information e = rw e

module _ (c : Channel) (information : List ℕ) (rule : keeps_rule c ≡ true) where
  -- what a block with a right header makes of the state
  onward : Bool → ℕ → ChannelAfter
  onward lf sc =
      unless (not (is_waiting c.phase)) (channel_after (refused 8) (as_waiting c lf sc))
      (unless (eqb sc c.expected) (channel_after (refused 8) (as_waiting c lf sc))
      (unless (ltb c.gathered 260) (channel_after (refused 9) (as_waiting c lf sc))
      (after_joining (paste c.bytes c.gathered (drop 2 information) 20) (c.gathered + 20) lf ((sc + 1) % 16))))

  by_header : step_of c information ≡ refused_or (header_answer information) (λ n. channel_after (refused n) c) (onward (lf_of (header_of information)) (sc_of (header_of information)))
  unfolding step_of onward
  by_header =
      let h = header_of information in
      rw rule (in_order (eqb (length information) 22) (eqb (si_lch_of h) 10) (holds (total layer3) h) 1 5 4 (λ n. channel_after (refused n) c) _)

  pub no_block : (n : ℕ) → numbers.refused n ≡ header_answer information → channel_after (refused n) c ≡ step_of c information
  no_block n e = ap (λ (p : Paper). refused_or p (λ n. channel_after (refused n) c) (onward (lf_of (header_of information)) (sc_of (header_of information)))) e ∙ sym by_header

  -- a block with a right header goes on by the state
  module _ (lf : Bool) (sc : ℕ) (right : accepted ≡ header_answer information) (lf_is : lf ≡ lf_of (header_of information)) (sc_is : sc ≡ sc_of (header_of information)) where
    pub whole_block : length information ≡ 22
    whole_block = let h = header_of information in eqb-true _ _ (all_passed (eqb (length information) 22) (eqb (si_lch_of h) 10) (holds (total layer3) h) 1 5 4 right).0

    by_state : step_of c information ≡ unless (not (is_waiting c.phase) && eqb sc c.expected) (channel_after (refused 8) (as_waiting c lf sc))
        (unless (ltb c.gathered 260) (channel_after (refused 9) (as_waiting c lf sc))
        (after_joining (paste c.bytes c.gathered (drop 2 information) 20) (c.gathered + 20) lf ((sc + 1) % 16)))
    unfolding onward
    by_state =
        by_header
        ∙ (λ i. refused_or (sym right i) (λ n. channel_after (refused n) c) (onward (sym lf_is i) (sym sc_is i)))
        ∙ unless_and (not (is_waiting c.phase)) (eqb sc c.expected) _ _

    pub out_of_step : (not (is_waiting c.phase) && eqb sc c.expected) ≡ false → channel_after (refused 8) (as_waiting c lf sc) ≡ step_of c information
    out_of_step e = sym (by_state ∙ rw e)

    module _ (expected : (not (is_waiting c.phase) && eqb sc c.expected) ≡ true) where
      pub too_many : 260 ≤ c.gathered → channel_after (refused 9) (as_waiting c lf sc) ≡ step_of c information
      too_many l = sym (by_state ∙ rw (expected, le-ltb _ _ l))

      pub joins_on : c.gathered < 260 → after_joining (paste c.bytes c.gathered (drop 2 information) 20) (c.gathered + 20) lf ((sc + 1) % 16) ≡ step_of c information
      joins_on l = sym (by_state ∙ rw (expected, lt-ltb _ _ l))
