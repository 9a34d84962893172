-- Layer 4 headers in the code and in the definitions, with and without EXT. Assumes nothing.
use Prim.Native.Nat.{ℕ, ◌+◌, ◌-◌, ◌*◌, ◌/◌, ◌%◌, ◌^◌, ◌≤◌, ◌<◌}
use mathlib.Core.Path.{◌≡◌, refl, ◌∙◌}
use mathlib.Core.Bool.{Bool, true, false}
use mathlib.Core.List.{List}
use native.Mathlib.Nat.{div-one, mod-one, div-div-eq-div-mul}
use native.Mathlib.Omega.{arith}
use lib.Dec.{eqb}
use Rattle.header.specs.Header.{check, total}
use Rattle.channel.specs.Layer4.{where_ext, size_of, layer4, opened, opened_at, ext_of}
use Rattle.channel.specs.declared.Header.{Header}
use Rattle.channel.specs.declared.layer4.Opened.{Opened}
use Rattle.channel.proofs.Laws.{check_at}

-- the bits of a header and of its fields
pub fields_small : (ext : Bool) (h : ℕ) → h < 2 ^ (8 * size_of ext) → h / 64 < 2 ^ total (layer4 ext)
fields_small true h l = omega (arith, l)
fields_small false h l = omega (arith, l)

pub check_over : (ext : Bool) (x : ℕ) → x < 2 ^ total (layer4 ext) → check 64 x ≡ check (total (layer4 ext)) x
check_over ext x h = check_at (total (layer4 ext)) x (few ext) h
  where
    few : (ext : Bool) → total (layer4 ext) ≤ 64
    few true = omega arith
    few false = omega arith

-- the fields x as the code takes them from a header of `size` bytes, with EXT ADD
abbrev pub taken : (ext : Bool) (x size upper : ℕ) → Header
taken ext x size upper =
    let front = x / 2 ^ (8 * size - 22) in
    record {
      ri = front / 16384 % 4;
      ci = front / 4096 % 4;
      first = eqb (front / 2048 % 2) 1;
      last = eqb (front / 1024 % 2) 1;
      ext = ext;
      number = 512 * upper + front % 512;
      command = eqb (x / 512 % 2) 1;
      length = x % 256;
      size = size;
    }

places : (ext : Bool) (h : ℕ) → taken ext (h / 64) (size_of ext) (where_ext ext (h / 64 / 8192 % 32)) ≡ (opened ext h).header
unfolding opened
places true h =
    let d = div-div-eq-div-mul (h / 64) (2 ^ 18) in
    rw (d 16384, d 4096, d 2048, d 1024, div-one)
places false h =
    let d = div-div-eq-div-mul (h / 64) (2 ^ 10) in
    rw (d 16384, d 4096, d 2048, d 1024, div-one, mod-one)

pub taken_opened : (ext : Bool) (h size upper : ℕ) → size ≡ size_of ext → upper ≡ where_ext ext (h / 64 / 8192 % 32) → taken ext (h / 64) size upper ≡ (opened ext h).header
taken_opened ext h size upper s u = (λ i. taken ext (h / 64) (s i) (u i)) ∙ places ext h

-- the rest, with RFA and the check k as the code has them
rfa_place : (ext : Bool) (h : ℕ) → where_ext ext (h / 64 / 1024 % 8) ≡ (opened ext h).rfa
unfolding opened
rfa_place true h = refl
rfa_place false h = rw mod-one

module _ (ext : Bool) (h rfa k : ℕ) (m : Header) (l : h < 2 ^ (8 * size_of ext)) (is : m ≡ (opened ext h).header)
    (r : rfa ≡ where_ext ext (h / 64 / 1024 % 8)) (e : k ≡ check 64 (h / 64)) where
  pub parted_opened : ◌≡◌ {A = Opened} (record { header = m; rfa = rfa; caf = eqb (h / 64 / 256 % 2) 1; checked = eqb k (h % 64) }) (opened ext h)
  unfolding opened
  parted_opened =
      let c = e ∙ check_over ext (h / 64) (fields_small ext h l) in
      let z = r ∙ rfa_place ext h in
      λ i. record { header = is i; rfa = z i; caf = eqb (h / 64 / 256 % 2) 1; checked = eqb (c i) (h % 64) }

-- a header has at most five bytes, and its data 255
opened_room : (ext : Bool) (h : ℕ) → ((opened ext h).header.size ≤ 5) × ((opened ext h).header.length ≤ 255)
unfolding opened
opened_room true h = omega arith
opened_room false h = omega arith

pub opened_at_room : (bytes : List ℕ) → ((opened_at bytes).header.size ≤ 5) × ((opened_at bytes).header.length ≤ 255)
unfolding opened_at
opened_at_room bytes = opened_room (ext_of bytes) _
