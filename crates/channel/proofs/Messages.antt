-- What the gathered bytes are, test by test, on the header as it stands in them. Assumes nothing.
use Prim.Native.Nat.{ℕ, ◌+◌, ◌*◌, ◌≤◌, ◌<◌}
use mathlib.Core.Path.{◌≡◌, sym, ap, ◌∙◌}
use mathlib.Core.Bool.{Bool, true, false, not, ◌&&◌}
use mathlib.Core.List.{List}
use borrow.Author.Tests.{le-leb, lt-leb}
use lib.Dec.{eqb, leb}
use lib.ListN.{length, drop}
use Rattle.answers.specs.Rules.{unless}
use Rattle.answers.proofs.Rules.{unless_and}
use Rattle.channel.specs.Answers.{Outcome, message, refused}
use Rattle.channel.specs.Layer4.{right_form, blocks_for, is_padding, opened_at, tested, message_of}
use Rattle.channel.specs.declared.layer4.Opened.{Opened}
use Rattle.channel.proofs.Headers.{opened_at_room}

abbrev pub formed : Opened → Bool
formed o = eqb o.rfa 0 && right_form o.header.ext o.header.number

abbrev pub end_of : Opened → ℕ
end_of o = o.header.size + o.header.length

abbrev pub filled : Opened → List ℕ → Bool
filled o bytes = eqb (blocks_for (end_of o) * 20) (length bytes) && is_padding (drop (end_of o) bytes)

module _ (bytes : List ℕ) (o : Opened) (is : o ≡ opened_at bytes) where
  pub room : (o.header.size ≤ 5) × (o.header.length ≤ 255)
  room = rw is (opened_at_room bytes)

  in_five : message_of bytes ≡ unless (not o.caf) (refused 6) (unless o.checked (refused 4) (unless (formed o) (refused 6)
      (unless (leb (end_of o) 260) (refused 14) (unless (filled o bytes) (refused 7) (message o.header)))))
  unfolding message_of tested
  in_five =
      let last = unless_and {A = Outcome} (eqb (blocks_for (end_of o) * 20) (length bytes)) (is_padding (drop (end_of o) bytes)) (refused 7) (message o.header) in
      ap (λ (p : Opened). tested p bytes) (sym is)
      ∙ ap (λ (t : Outcome). unless (not o.caf) (refused 6) (unless o.checked (refused 4) t))
      (unless_and (eqb o.rfa 0) (right_form o.header.ext o.header.number) (refused 6) _
      ∙ (λ i. unless (formed o) (refused 6) (unless (leb (end_of o) 260) (refused 14) (last i))))

  pub caf_set : o.caf ≡ true → refused 6 ≡ message_of bytes
  caf_set e = sym (in_five ∙ rw e)

  module _ (plain : o.caf ≡ false) where
    pub wrong_check : o.checked ≡ false → refused 4 ≡ message_of bytes
    wrong_check e = sym (in_five ∙ rw (plain, e))

    module _ (checked : o.checked ≡ true) where
      pub wrong_form : formed o ≡ false → refused 6 ≡ message_of bytes
      wrong_form e = sym (in_five ∙ rw (plain, checked, e))

      module _ (form : formed o ≡ true) where
        pub too_long : 260 < end_of o → refused 14 ≡ message_of bytes
        too_long h = sym (in_five ∙ rw (plain, checked, form, lt-leb _ _ h))

        module _ (short : end_of o ≤ 260) where
          pub wrong_padding : filled o bytes ≡ false → refused 7 ≡ message_of bytes
          wrong_padding e = sym (in_five ∙ rw (plain, checked, form, le-leb _ _ short, e))

          pub a_message : filled o bytes ≡ true → message o.header ≡ message_of bytes
          a_message e = sym (in_five ∙ rw (plain, checked, form, le-leb _ _ short, e))
