-- `Message::lay`: the header fills the front, and the data is copied behind it. Assumes nothing.
use Prim.Native.Nat.{ℕ, ◌+◌, ◌-◌, ◌*◌}
use mathlib.Core.List.{◌++◌}
use mathlib.Core.Path.{◌≡◌, refl, sym, ap, ap₂, ◌∙◌}
use native.Mathlib.Omega.{arith}
use lib.Dec.{leb}
use lib.ListN.{length, take, drop}
use lib.Seq.{length-take-le}
use Rattle.header.specs.Header.{total, header, with_check, bytes_of}
use Rattle.header.proofs.Fields.{length_bytes}
use Rattle.channel.specs.Layer4.{layer4}
use Rattle.channel.proofs.Headers.{check_over}
use Rattle.std.proofs.lemmas.Slice.{put_mid-paste}
use Rattle.writer.specs.Message.{header_for, values_of, header_bytes}
use Rattle.writer.proofs.Writing.{laid}
use borrow.Author.Rules.{rules}
use Rattle.writer.proofs.message.Message.lay.Goals as goal

pub returns : goal.returns
unfolding header_bytes
returns c =
    let a = c.args in
    let m = a.self.now in
    let size = c.header_size-size.result in
    let ext = leb 512 m.fields.number in
    let h = header_for m.fields (length m.«data».now) in
    let e = c.header_size-size.ensures.0 in
    let l : length a.bytes.now ≡ 260 = search rules in
    let n : length (take size a.bytes.now) ≡ size = length-take-le size a.bytes.now (omega (arith, c.header_size-size.ensures)) in
    let x : c.with_check.result ≡ header (layer4 ext) (values_of h) =
    c.with_check.ensures
    ∙ ap (λ (k : ℕ). c.pack.result * 64 + k) (check_over ext c.pack.result c.pack.ensures.1)
    ∙ ap (with_check (total (layer4 ext))) c.pack.ensures.0 in
    let front = c.put_header.ensures ∙ ap₂ bytes_of (n ∙ e) x in
    put_mid-paste size (size + length m.«data».now - size) _ _ m.«data».now (length m.«data».now) c.copy_from_slice.ensures.after (omega arith) refl
    ∙ laid a.bytes.now m.«data».now _ _ size front (length_bytes _ _ ∙ sym e)
    ∙ ap (λ (k : ℕ). header_bytes h ++ m.«data».now ++ drop (k + length m.«data».now) a.bytes.now) e
