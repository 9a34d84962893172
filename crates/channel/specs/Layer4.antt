-- Document 01, "Layer 4 header, 32 or 40 bits", and what the gathered bytes of a message are, test by test. Assumes nothing.
use Rattle.std.specs.Prelude.{ℕ, ◌+◌, ◌*◌, ◌/◌, ◌%◌, Bool, true, not, cond, List, [], ◌∷◌, eqb, leb, length, get_or, take, drop}
use Rattle.std.specs.List.{list_all}
use Rattle.answers.specs.Rules.{unless}
use Rattle.header.specs.Header.{total, field, flag, holds, header_from}
use Rattle.channel.specs.Answers.{Outcome, message, refused}
use Rattle.channel.specs.declared.Header.{Header}
use Rattle.channel.specs.declared.layer4.Opened.{Opened}

-- where EXT is 1; a field that a header does not have is 0 bits wide
abbrev pub where_ext : Bool → ℕ → ℕ
where_ext ext width = cond ext width 0

-- RI 2, CI 2, First 1, Last 1, EXT 1, ADD 9, then where EXT is 1: EXT ADD 5 and RFA 3; COM 1, CAF 1, data length 8; and the check:
-- places 0 RI, 1 CI, 2 First, 3 Last, 4 EXT, 5 ADD, 6 EXT ADD, 7 RFA, 8 COM, 9 CAF, 10 data length
abbrev pub layer4 : Bool → List ℕ
layer4 ext = 2 ∷ 2 ∷ 1 ∷ 1 ∷ 1 ∷ 9 ∷ where_ext ext 5 ∷ where_ext ext 3 ∷ 1 ∷ 1 ∷ 8 ∷ []

-- the header's bytes
abbrev pub size_of : Bool → ℕ
size_of ext = cond ext 5 4

-- a header as it stands; the service number is ADD, or 512 x EXT ADD + ADD with EXT
unfoldable pub opened : Bool → ℕ → Opened
opened ext h =
    record {
      header = record {
        ri = field (layer4 ext) 0 h;
        ci = field (layer4 ext) 1 h;
        first = flag (layer4 ext) 2 h;
        last = flag (layer4 ext) 3 h;
        ext = ext;
        number = 512 * field (layer4 ext) 6 h + field (layer4 ext) 5 h;
        command = flag (layer4 ext) 8 h;
        length = field (layer4 ext) 10 h;
        size = size_of ext;
      };
      rfa = field (layer4 ext) 7 h;
      caf = flag (layer4 ext) 9 h;
      checked = holds (total (layer4 ext)) h;
    }

-- EXT is the seventh bit of the first byte
abbrev pub ext_of : List ℕ → Bool
ext_of bytes = eqb (get_or bytes 0 0 / 2 % 2) 1

unfoldable pub opened_at : List ℕ → Opened
opened_at bytes = opened (ext_of bytes) (header_from (take (size_of (ext_of bytes)) bytes))

-- a number below 512 is written without EXT, a greater one with it; without EXT there is no room for a greater one
abbrev pub right_form : Bool → ℕ → Bool
right_form ext number = cond ext (leb 512 number) true

-- the bytes of a header and its data
abbrev pub message_size : Header → ℕ
message_size m = m.size + m.length

-- the least number of 20-byte blocks that holds n bytes
abbrev pub blocks_for : ℕ → ℕ
blocks_for n = (n + 19) / 20

-- the blocks that a header and its data fill: at least one, since a header has bytes
abbrev pub blocks_filled : Header → ℕ
blocks_filled m = blocks_for (message_size m)

-- the data stands behind the header
abbrev pub data_of : Header → List ℕ → List ℕ
data_of m bytes = take m.length (drop m.size bytes)

abbrev pub is_padding : List ℕ → Bool
is_padding bytes = list_all (λ b. eqb b 0) bytes

-- CAF set (6); header check (4); RFA, or the wrong EXT form (6); over 260 bytes (14); wrong block count (7); padding (7); else "message"
unfoldable pub tested : Opened → List ℕ → Outcome
tested o bytes =
    let m = o.header in
    unless (not o.caf) (refused 6)
    (unless o.checked (refused 4)
    (unless (eqb o.rfa 0) (refused 6)
    (unless (right_form m.ext m.number) (refused 6)
    (unless (leb (message_size m) 260) (refused 14)
    (unless (eqb (blocks_filled m * 20) (length bytes)) (refused 7)
    (unless (is_padding (drop (message_size m) bytes)) (refused 7)
    (message m)))))))

unfoldable pub message_of : List ℕ → Outcome
message_of bytes = tested (opened_at bytes) bytes
