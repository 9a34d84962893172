-- The counts that `is_counts` admits are those that some accepted log gives. Assumes nothing.
use Prim.Native.Nat.{ℕ, suc, zero, ◌+◌, ◌-◌, ◌*◌, ◌≤◌}
use mathlib.Core.Path.{◌≡◌, refl, ap, sym, ◌∙◌, subst}
use mathlib.Core.Bool.{true, and-eq-true_iff}
use mathlib.Core.List.{List, [], ◌∷◌, ◌++◌}
use native.Mathlib.Omega.{arith}
use lib.ListN.{length, length-append}
use lib.Dec.{eqb, leb}
use borrow.Author.Tests.{leb-true, leb-false, le-leb, ne_eqb}
use Rattle.answers.specs.Numbers.{accepted}
use Rattle.band.specs.Band.{is_channel}
use Rattle.logs.specs.declared.Counts.{Counts}
use Rattle.logs.specs.declared.Reader.{Reader}
use Rattle.logs.specs.Log.{is_outcome, log_text, all_outcomes, one, counted, counts_from, tuned, is_sound, is_counts}
use Rattle.logs.specs.Reader.{fresh_reader, read_of, is_reader}
use Rattle.logs.proofs.Lists.{by_cases}
use Rattle.logs.proofs.Sound.{Sound, sound}
use Rattle.logs.proofs.Outcomes.{counted_read, before_sound}
use Rattle.logs.proofs.Written.{counts_channel, all_snoc, written_run}
use Rattle.logs.proofs.Runs.{ruled, run_kept, fresh_kept}
use Rattle.logs.proofs.Beginnings.{good, good_is}
use Rattle.logs.proofs.Accepted.{written_read, accepted_text}

same_counts : (a b : Counts) → a.channel ≡ b.channel → a.slots ≡ b.slots → a.read ≡ b.read → a.clean ≡ b.clean → a.bits ≡ b.bits
    → a.noword ≡ b.noword → a.check ≡ b.check → a.missing ≡ b.missing → a ≡ b
same_counts a b h p q r s t u v =
    λ i. record { channel = h i; slots = p i; read = q i; clean = r i; bits = s i; noword = t i; check = u i; missing = v i }

-- one slot less
record Less (c : Counts) : Type 0 where
  outcome : ℕ
  rest : Counts
  legal : is_outcome outcome ≡ true
  sound : Sound rest
  slots : rest.slots + 1 ≡ c.slots
  channel : rest.channel ≡ c.channel
  back : counted rest outcome ≡ c

-- a slot of which nothing was read: `n`, `c` or `-`, as one of the three numbers is 1
less_unread : (c : Counts) (o n w m : ℕ) → is_outcome o ≡ true → n + w + m ≡ 1 → n ≤ c.noword → w ≤ c.check → m ≤ c.missing → Sound c
    → ((d : Counts) → counted d o ≡ record { channel = d.channel; slots = d.slots + 1; read = d.read + 0; clean = d.clean + 0; bits = d.bits + 0; noword = d.noword + n; check = d.check + w; missing = d.missing + m })
    → Less c
less_unread c o n w m l e i j k s f =
    let d : Counts = record { channel = c.channel; slots = c.slots - 1; read = c.read; clean = c.clean; bits = c.bits; noword = c.noword - n; check = c.check - w; missing = c.missing - m } in
    let p : 1 ≤ c.slots = omega (arith, s.each) in
    record {
      outcome = o;
      rest = d;
      legal = l;
      sound = record { few = omega (arith, s.few); each = omega (arith, s.each); clean = s.clean; least = s.least; most = s.most };
      slots = omega arith;
      channel = refl;
      back = f d ∙ same_counts _ c refl (omega arith) (omega arith) (omega arith) (omega arith) (omega arith) (omega arith) (omega arith);
    }

-- a slot that was read, with the bits b; k is 1 where it is clean
less_read : (c : Counts) (k b : ℕ) → b ≤ 8 → one (eqb b 0) ≡ k → k ≤ c.clean → 1 ≤ c.read → b ≤ c.bits
    → c.clean - k ≤ c.read - 1 → c.read - 1 - (c.clean - k) ≤ c.bits - b → c.bits - b ≤ 8 * (c.read - 1 - (c.clean - k)) → Sound c → Less c
unfolding is_outcome
less_read c k b h z i r j x y w s =
    let d : Counts = record { channel = c.channel; slots = c.slots - 1; read = c.read - 1; clean = c.clean - k; bits = c.bits - b; noword = c.noword; check = c.check; missing = c.missing } in
    let p : 1 ≤ c.slots = omega (arith, s.each) in
    record {
      outcome = 48 + b;
      rest = d;
      legal = rw (le-leb 48 (48 + b) (omega arith), le-leb (48 + b) 56 (omega arith));
      sound = record { few = omega (arith, s.few); each = omega (arith, s.each); clean = x; least = y; most = w };
      slots = omega arith;
      channel = refl;
      back = counted_read d b h
          ∙ same_counts _ c refl (omega arith) (omega arith) (omega (arith, z)) (omega arith) (omega arith) (omega arith) (omega arith);
    }

-- the bits of a slot that is not clean: as many as leave one for each of the others
bits_of : (r b : ℕ) → 1 ≤ r → r ≤ b → b ≤ 8 * r → (d : ℕ) × (1 ≤ d) × (d ≤ 8) × (d ≤ b) × (r - 1 ≤ b - d) × (b - d ≤ 8 * (r - 1))
bits_of r b o h k =
    by_cases _ (leb 8 (b - (r - 1)))
    (λ e. let l = leb-true 8 (b - (r - 1)) e in (8, omega arith, omega arith, omega arith, omega arith, omega arith))
    (λ e. let l = leb-false 8 (b - (r - 1)) e in (b - (r - 1), omega arith, omega arith, omega arith, omega arith, omega arith))

less_dirty : (c : Counts) → c.clean ≡ 0 → 1 ≤ c.read → Sound c → Less c
less_dirty c z r s =
    let t = bits_of c.read c.bits r (omega (arith, s.least)) (omega (arith, s.most)) in
    let d = t.0 in
    less_read c 0 d t.2 (ap one (ne_eqb d 0 (λ e. omega (arith, t.1)))) (omega arith) r t.3 (omega arith) (omega (arith, t.4)) (omega (arith, t.5)) s

less : (c : Counts) → 1 ≤ c.slots → Sound c → Less c
unfolding is_outcome counted
less c h s =
    by_cases _ (leb 1 c.missing)
    (λ e. less_unread c 45 0 0 1 refl (omega arith) (omega arith) (omega arith) (leb-true 1 c.missing e) s (λ d. refl))
    (λ e. by_cases _ (leb 1 c.check)
    (λ f. less_unread c 99 0 1 0 refl (omega arith) (omega arith) (leb-true 1 c.check f) (omega arith) s (λ d. refl))
    (λ f. by_cases _ (leb 1 c.noword)
    (λ g. less_unread c 110 1 0 0 refl (omega arith) (leb-true 1 c.noword g) (omega arith) (omega arith) s (λ d. refl))
    (λ g.
    let r : 1 ≤ c.read = omega (arith, s.each, leb-false 1 c.missing e, leb-false 1 c.check f, leb-false 1 c.noword g) in
    by_cases _ (leb 1 c.clean)
    (λ i.
    let k = leb-true 1 c.clean i in
    less_read c 1 0 (omega arith) refl k r (omega arith) (omega (arith, s.clean)) (omega (arith, s.least, s.clean)) (omega (arith, s.most, s.clean)) s)
    (λ i. less_dirty c (omega (arith, leb-false 1 c.clean i)) r s))))

-- outcomes that give the counts
pub record Gives (c : Counts) (n : ℕ) : Type 0 where
  pub outcomes : List ℕ
  pub all : all_outcomes outcomes ≡ true
  pub long : length outcomes ≡ n
  pub counts : counts_from (tuned c.channel) outcomes ≡ c

counts_snoc : (os : List ℕ) (o : ℕ) (c : Counts) → counts_from c (os ++ (o ∷ [])) ≡ counted (counts_from c os) o
unfolding counts_from
counts_snoc [] o c = refl
counts_snoc (x ∷ os) o c = counts_snoc os o (counted c x)

pub no_slots : (c : Counts) → c.slots ≡ 0 → Sound c → tuned c.channel ≡ c
no_slots c e s =
    same_counts (tuned c.channel) c refl (omega arith) (omega (arith, s.each)) (omega (arith, s.each, s.clean)) (omega (arith, s.each, s.most))
    (omega (arith, s.each)) (omega (arith, s.each)) (omega (arith, s.each))

no_outcomes : (c : Counts) → c.slots ≡ 0 → Sound c → Gives c 0
unfolding all_outcomes counts_from
no_outcomes c e s = record { outcomes = []; all = refl; long = refl; counts = no_slots c e s }

gives_more : (c : Counts) (n : ℕ) (l : Less c) → Gives l.rest n → Gives c (suc n)
gives_more c n l g =
    record {
      outcomes = g.outcomes ++ (l.outcome ∷ []);
      all = all_snoc g.outcomes l.outcome g.all l.legal;
      long = length-append g.outcomes (l.outcome ∷ []) ∙ omega (arith, g.long);
      counts = ap (λ (k : ℕ). counts_from (tuned k) (g.outcomes ++ (l.outcome ∷ []))) (sym l.channel)
          ∙ counts_snoc g.outcomes l.outcome (tuned l.rest.channel)
          ∙ ap (λ (d : Counts). counted d l.outcome) g.counts
          ∙ l.back;
    }

pub outcomes_of : (n : ℕ) (c : Counts) → c.slots ≡ n → Sound c → Gives c n
outcomes_of zero c e s = no_outcomes c e s
outcomes_of (suc n) c e s =
    let l = less c (omega arith) s in
    gives_more c n l (outcomes_of n l.rest (omega (arith, l.slots)) l.sound)

-- COUNTS THAT SATISFY THE TEST COME FROM SOME ACCEPTED LOG
pub log_of_counts : (c : Counts) → is_counts c ≡ true → (log : List ℕ) × (read_of log ≡ record { answer = accepted; line = 0; counts = c })
unfolding is_counts
log_of_counts c e =
    let a = (and-eq-true_iff (is_channel c.channel) (is_sound c)).0 e in
    let s = sound c a.1 in
    let g = outcomes_of c.slots c refl s in
    let h = good_is c.channel g.outcomes (record { band = a.0; all = g.all; few = omega (arith, g.long, s.few) }) in (
      log_text c.channel g.outcomes,
      written_read c.channel g.outcomes h
          ∙ ap (λ (d : Counts). record { answer = accepted; line = 0; counts = d }) g.counts,
    )

counts_both : (c : Counts) → is_channel c.channel ≡ true → is_sound c ≡ true → is_counts c ≡ true
unfolding is_counts
counts_both c h s = rw h s

-- AN ACCEPTED LOG'S COUNTS SATISFY THE TEST
pub counts_of_log : (log : List ℕ) → (read_of log).answer ≡ accepted → is_counts (read_of log).counts ≡ true
counts_of_log log e =
    let t = accepted_text log e in
    let n = t.channel in
    let os = t.outcomes in
    let g = good n os t.good in
    let k = subst (λ (s : Reader). is_reader s ≡ true) (written_run n os g.band g.all g.few) (run_kept fresh_reader (log_text n os) fresh_kept).0 in
    rw t.counts
    (counts_both (counts_from (tuned n) os) (ap is_channel (counts_channel os (tuned n)) ∙ g.band) (before_sound _ (ruled _ k).before))
