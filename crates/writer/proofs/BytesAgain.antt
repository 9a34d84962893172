-- The bytes of an accepted message are what the writer's definitions give for it. Assumes nothing.
use Prim.Native.Nat.{ℕ, zero, suc, ◌+◌, ◌-◌, ◌*◌, ◌/◌, ◌%◌, ◌^◌, ◌≤◌, ◌<◌}
use mathlib.Core.Path.{◌≡◌, refl, sym, ap, ap₂, ◌∙◌, subst}
use mathlib.Core.Bool.{Bool, true, false, not, and-eq-true_iff}
use mathlib.Core.List.{List, [], ◌∷◌, ◌++◌}
use native.Mathlib.Omega.{arith}
use borrow.Author.Tests.{eqb-true, lt-leb}
use lib.Dec.{eqb, leb}
use lib.ListN.{length, get_or, take, drop, replicate, length-drop, take-append-drop}
use lib.Pow.{are_bytes}
use lib.Seq.{take-add, length-take-le, get_or-take}
use Rattle.answers.proofs.Bytes.{bytes_parts}
use Rattle.answers.proofs.Rules.{unless_passed}
use Rattle.gf2.specs.Poly.{bit}
use Rattle.header.specs.Header.{Fit, field, fields, header, bytes_of, header_from}
use Rattle.header.proofs.Fields.{fields_fit, number_bytes, number_lt}
use Rattle.header.proofs.Bits.{bit_of, header_again}
use Rattle.channel.specs.Answers.{Outcome, message, refused}
use Rattle.channel.specs.Layer4.{where_ext, layer4, size_of, message_size, blocks_filled, data_of, opened, ext_of, opened_at, is_padding, right_form, tested, message_of}
use Rattle.channel.specs.declared.Header.{Header}
use Rattle.channel.specs.declared.layer4.Opened.{Opened}
use Rattle.channel.proofs.Headers.{fields_small}
use Rattle.channel.proofs.Laws.{size_room}
use Rattle.writer.specs.Message.{values_of, header_bytes, message_bytes}
use Rattle.writer.proofs.HeaderBack.{Right, ext_place}

-- ---- what an accepted row has passed

-- a refusal is no message
no_message : (h : Header) (n : ℕ) → refused n ≡ message h → ⊥
no_message h n e = let z : ◌≡◌ {A = ℕ} 0 1 = cc in omega arith

record Passed (o : Opened) (bytes : List ℕ) (h : Header) : Type 0 where
  caf : not o.caf ≡ true
  checked : o.checked ≡ true
  rfa : o.rfa ≡ 0
  form : right_form o.header.ext o.header.number ≡ true
  count : blocks_filled o.header * 20 ≡ length bytes
  padding : is_padding (drop (message_size o.header) bytes) ≡ true
  is : o.header ≡ h

all_passed : (o : Opened) (bytes : List ℕ) (h : Header) → tested o bytes ≡ message h → Passed o bytes h
unfolding tested
all_passed o bytes h e =
    let end = message_size o.header in
    let Is : Outcome → Type 0 = λ r. r ≡ message h in
    let a = unless_passed Is (not o.caf) _ _ (no_message h 6) e in
    let b = unless_passed Is o.checked _ _ (no_message h 4) a.1 in
    let c = unless_passed Is (eqb o.rfa 0) _ _ (no_message h 6) b.1 in
    let d = unless_passed Is (right_form o.header.ext o.header.number) _ _ (no_message h 6) c.1 in
    let f = unless_passed Is (leb end 260) _ _ (no_message h 14) d.1 in
    let g = unless_passed Is (eqb (blocks_filled o.header * 20) (length bytes)) _ _ (no_message h 7) f.1 in
    let j = unless_passed Is (is_padding (drop end bytes)) _ _ (no_message h 7) g.1 in
    let m : message o.header ≡ message h = j.1 in
    record {
      caf = a.0;
      checked = b.0;
      rfa = eqb-true o.rfa 0 c.0;
      form = d.0;
      count = eqb-true (blocks_filled o.header * 20) (length bytes) g.0;
      padding = j.0;
      is = cc;
    }

-- ---- the header

none_of : (x : ℕ) → x < 2 → not (eqb x 1) ≡ true → x ≡ 0
none_of zero h e = refl
none_of (suc zero) h e = let z : ◌≡◌ {A = ℕ} 0 1 = cc in absurd (omega arith)
none_of (suc (suc n)) h e = absurd (omega arith)

-- the form of an accepted number
form_again : (ext : Bool) (upper add : ℕ) → upper < 2 ^ where_ext ext 5 → add < 512 → right_form ext (512 * upper + add) ≡ true
    → (512 * upper + add < 16384) × (ext ≡ leb 512 (512 * upper + add))
form_again true upper add u a f = (omega (arith, u), sym f)
form_again false upper add u a f = (omega (arith, u), sym (lt-leb 512 (512 * upper + add) (omega (arith, u))))

-- a header of an accepted message
module _ (ext : Bool) (h : ℕ) (bytes : List ℕ) (small : h < 2 ^ (8 * size_of ext)) (is_ext : bit ext ≡ field (layer4 ext) 4 h)
    (m : Header) (p : Passed (opened ext h) bytes m) where
  read : Header
  read = (opened ext h).header

  read_fit : Fit (layer4 ext) (fields (layer4 ext) (h / 64))
  read_fit = fields_fit (layer4 ext) (h / 64)

  form : (read.number < 16384) × (ext ≡ leb 512 read.number)
  unfolding read opened
  form = form_again ext (field (layer4 ext) 6 h) (field (layer4 ext) 5 h) read_fit.1.1.1.1.1.1.0 read_fit.1.1.1.1.1.0 p.form

  read_right : Right read
  unfolding read opened
  read_right =
      record { ri = read_fit.0; ci = read_fit.1.0; number = form.0; few = omega (arith, read_fit.1.1.1.1.1.1.1.1.1.1.0); ext = form.1; size = refl }

  values_again : values_of read ≡ fields (layer4 ext) (h / 64)
  unfolding read opened
  values_again =
      let f = read_fit in
      let upper = field (layer4 ext) 6 h in
      let add = field (layer4 ext) 5 h in
      let a : add < 512 = f.1.1.1.1.1.0 in
      let first = bit_of (field (layer4 ext) 2 h) f.1.1.0 in
      let last = bit_of (field (layer4 ext) 3 h) f.1.1.1.0 in
      let low : (512 * upper + add) % 512 ≡ add = omega arith in
      let high : (512 * upper + add) / 512 ≡ upper = omega arith in
      let rfa = sym p.rfa in
      let command = bit_of (field (layer4 ext) 8 h) f.1.1.1.1.1.1.1.1.0 in
      let caf = sym (none_of (field (layer4 ext) 9 h) f.1.1.1.1.1.1.1.1.1.0 p.caf) in
      λ i. field (layer4 ext) 0 h ∷ field (layer4 ext) 1 h ∷ first i ∷ last i ∷ is_ext i ∷ low i ∷ high i ∷ rfa i ∷ command i ∷ caf i ∷ field (layer4 ext) 10 h ∷ []

  whole_again : header (layer4 ext) (values_of read) ≡ h
  unfolding read opened
  whole_again = ap (header (layer4 ext)) values_again ∙ header_again (layer4 ext) h p.checked (fields_small ext h small)

-- ---- header, data and padding

zeros_all : (s : List ℕ) → is_padding s ≡ true → s ≡ replicate (length s) 0
zeros_all [] e = refl
zeros_all (b ∷ s) e =
    let t = (and-eq-true_iff (eqb b 0) (is_padding s)).0 e in
    λ i. eqb-true b 0 t.0 i ∷ zeros_all s t.1 i

pub record Again (bytes : List ℕ) (m : Header) : Type 0 where
  pub right : Right m
  pub row : message_bytes m (data_of m bytes) ≡ bytes
  pub blocks : blocks_filled m * 20 ≡ length bytes

row_again : (m : Header) (s : List ℕ) → header_bytes m ≡ take m.size s → blocks_filled m * 20 ≡ length s → is_padding (drop (message_size m) s) ≡ true → message_bytes m (data_of m s) ≡ s
unfolding message_bytes
row_again m s h count z =
    let n = message_size m in
    let front : header_bytes m ++ data_of m s ≡ take n s = ap (λ (x : List ℕ). x ++ data_of m s) h ∙ sym (take-add m.size m.length s) in
    let left : length (drop n s) ≡ blocks_filled m * 20 - n = length-drop n s ∙ ap (λ (k : ℕ). k - n) (sym count) in
    let back : drop n s ≡ replicate (blocks_filled m * 20 - n) 0 = zeros_all (drop n s) z ∙ ap (λ (k : ℕ). replicate k 0) left in
    ap₂ (λ (x y : List ℕ). x ++ y) front (sym back) ∙ take-append-drop n s

module _ (bytes : List ℕ) (fit : are_bytes bytes ≡ true) (long : 5 ≤ length bytes) where
  size : ℕ
  size = size_of (ext_of bytes)

  whole : ℕ
  whole = header_from (take size bytes)

  taken_length : length (take size bytes) ≡ size
  unfolding size
  taken_length = length-take-le (size_of (ext_of bytes)) bytes (omega (arith, size_room (ext_of bytes)))

  whole_small : whole < 2 ^ (8 * size)
  unfolding size whole
  whole_small = subst (λ (k : ℕ). whole < 2 ^ (8 * k)) taken_length (number_lt (take size bytes) (bytes_parts size bytes fit).0)

  whole_bytes : bytes_of size whole ≡ take size bytes
  unfolding size whole
  whole_bytes = ap (λ (k : ℕ). bytes_of k whole) (sym taken_length) ∙ number_bytes (take size bytes) (bytes_parts size bytes fit).0

  ext_again : bit (ext_of bytes) ≡ field (layer4 (ext_of bytes)) 4 whole
  unfolding size whole
  ext_again =
      let b = get_or bytes 0 0 in
      bit_of (b / 2 % 2) (omega arith)
      ∙ ap (λ (n : ℕ). n / 2 % 2) (sym (get_or-take size bytes 0 0 (omega (arith, size_room (ext_of bytes)))) ∙ ap (λ (s : List ℕ). get_or s 0 0) (sym whole_bytes))
      ∙ ext_place (ext_of bytes) whole

  pub bytes_again : (m : Header) → message_of bytes ≡ message m → Again bytes m
  unfolding message_of opened_at size whole header_bytes read opened
  bytes_again m e =
      let ext = ext_of bytes in
      let p = all_passed (opened ext whole) bytes m e in
      let h = (opened ext whole).header in
      let front : header_bytes h ≡ take h.size bytes = ap (bytes_of size) (whole_again ext whole bytes whole_small ext_again m p) ∙ whole_bytes in
      subst (Again bytes) p.is
      (record {
        right = read_right ext whole bytes whole_small ext_again m p;
        row = row_again h bytes front p.count p.padding;
        blocks = p.count;
      })
