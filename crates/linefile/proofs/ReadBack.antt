-- What a writer wrote is read back: the four numbers stand before both areas, no byte of one area lies in the other, and so each is read where it was stored.
use Rattle.std.specs.Prelude.{Ok}
use mathlib.Core.Path.{◌≡◌, refl, sym, ap, ◌∙◌}
use mathlib.Core.Bool.{Bool, true, false, cond}
use mathlib.Core.Logic.{◌⊎◌, inl, inr}
use mathlib.Core.List.{List, [], ◌∷◌, ◌++◌}
use Prim.Native.Nat.{ℕ, ◌+◌, ◌-◌, ◌*◌, ◌/◌, ◌%◌, ◌<◌, ◌≤◌}
use native.Mathlib.Omega.{arith}
use native.Mathlib.Decide.{dec_lt}
use lib.Dec.{eqb, ltb}
use lib.ListN.{length, get_or, take, drop, replicate, length-append, length-replicate, get_or-append}
use lib.Seq.{sets, length-sets, get_or-append-add}
use borrow.Author.Tests.{le-ltb, eq-eqb}
use Rattle.bits.specs.Bits.{pack}
use Rattle.bits.proofs.Lists.{Small, zeros}
use Rattle.bits.proofs.Packed.{length_pack}
use Rattle.bits.proofs.Parts.{packed_part}
use Rattle.linefile.specs.declared.reader.Settings.{Settings}
use Rattle.linefile.specs.File.{number_at, stated_length, count_of, bits_at, settings_at, bytes_for, outside, overlapping, settings_of, l_of, d_of, ragged, malformed, rate_refused, read_answer, contents, bits_of_file}
use Rattle.linefile.specs.Writer.{word, setting_bytes, file_of, Writable}
use Rattle.linefile.proofs.Stored.{stored_outside, stored_inside, taken}

word_is : (n : ℕ) → ((n / 16777216 * 256 + n / 65536 % 256) * 256 + n / 256 % 256) * 256 + n % 256 ≡ n
word_is n = omega arith

module _ (c : Settings) (r : List ℕ) (a b n : ℕ) (w : Writable c r a b n) (small : Small r) where
  abbrev header : List ℕ
  header = word n ++ (word (length r) ++ (word a ++ (word b ++ replicate (n - 16) 0)))

  abbrev packed : List ℕ
  packed = pack (bytes_for (length r)) r

  abbrev file : List ℕ
  file = file_of c r a b n

  length_settings : length (setting_bytes c) ≡ 36
  length_settings = let e : length (c.key ++ c.iv) ≡ 32 = length-append c.key c.iv ∙ (λ i. w.key_is i + w.iv_is i) in omega (arith, e)

  length_header : length header ≡ n
  length_header = let e : length (zeros (n - 16)) ≡ n - 16 = length-replicate (n - 16) 0 in omega (arith, e, w.settings_after, w.settings_inside)

  length_file : length file ≡ n
  unfolding file_of
  length_file = length-sets (sets header b (setting_bytes c)) a packed ∙ length-sets header b (setting_bytes c) ∙ length_header

  -- before byte 16 the header stands
  head_at : (k : ℕ) → k < 16 → get_or file k 0 ≡ get_or header k 0
  unfolding file_of
  head_at k h =
      stored_outside packed (sets header b (setting_bytes c)) a k (inl (omega (arith, w.bits_after)))
      ∙ stored_outside (setting_bytes c) header b k (inl (omega (arith, w.settings_after)))

  number_kept : (i x : ℕ) → i ≤ 12 → number_at header i ≡ x → number_at file i ≡ x
  number_kept i x h e = rw (head_at i (omega arith), head_at (i + 1) (omega arith), head_at (i + 2) (omega arith), head_at (i + 3) (omega arith)) e

  stated : stated_length file ≡ n
  stated = number_kept 0 n (omega arith) (word_is n)

  count : count_of file ≡ length r
  count = number_kept 4 (length r) (omega arith) (word_is (length r))

  bits_start : bits_at file ≡ a
  bits_start = number_kept 8 a (omega arith) (word_is a)

  settings_start : settings_at file ≡ b
  settings_start = number_kept 12 b (omega arith) (word_is b)

  -- the settings stand from byte b on, and the packed bits from byte a on
  setting_kept : (j : ℕ) → j < 36 → get_or file (b + j) 0 ≡ get_or (setting_bytes c) j 0
  unfolding file_of
  setting_kept j h =
      stored_outside packed (sets header b (setting_bytes c)) a (b + j) (past w.apart)
      ∙ stored_inside (setting_bytes c) header b j (room) (omega (arith, length_settings))
    where
      past : ((length r ≡ 0) ⊎ ((a + bytes_for (length r) ≤ b) ⊎ (b + 36 ≤ a))) → (b + j < a) ⊎ (a + length packed ≤ b + j)
      past (inl p) = elim (dec_lt (b + j) a) [
        | yes q ↦ inl q
        | no q ↦ inr (omega (arith, length_pack (bytes_for (length r)) r, p))
      ]
      past (inr (inl p)) = inr (omega (arith, length_pack (bytes_for (length r)) r, p))
      past (inr (inr p)) = inl (omega (arith, p))

      room : b + length (setting_bytes c) ≤ length header
      room = omega (arith, length_header, length_settings, w.settings_inside)

  bits_kept : (j : ℕ) → j < bytes_for (length r) → get_or file (a + j) 0 ≡ get_or packed j 0
  unfolding file_of
  bits_kept j h =
      stored_inside packed (sets header b (setting_bytes c)) a j
      (omega (arith, length_header, length-sets header b (setting_bytes c), length_pack (bytes_for (length r)) r, w.bits_inside))
      (omega (arith, length_pack (bytes_for (length r)) r))

  pub bits_back : bits_of_file file ≡ r
  bits_back =
      rw (bits_start, count)
      (packed_part file r a (bytes_for (length r)) small (omega arith) (omega (arith, length_file, w.bits_inside)) bits_kept)

  -- ---- the settings

  key_at : (j : ℕ) → j < 16 → get_or file (b + 4 + j) 0 ≡ get_or c.key j 0
  key_at j h =
      let e : b + 4 + j ≡ b + (4 + j) = omega arith in
      ap (λ (k : ℕ). get_or file k 0) e ∙ setting_kept (4 + j) (omega arith) ∙ get_or-append-add (c.l ∷ c.pattern ∷ cond c.receiving 1 0 ∷ c.d ∷ []) (c.key ++ c.iv) j 0
      ∙ get_or-append c.key c.iv 0 j (omega (arith, w.key_is))

  iv_at : (j : ℕ) → j < 16 → get_or file (b + 20 + j) 0 ≡ get_or c.iv j 0
  iv_at j h =
      let e : b + 20 + j ≡ b + (4 + (16 + j)) = omega arith in
      ap (λ (k : ℕ). get_or file k 0) e ∙ setting_kept (4 + (16 + j)) (omega arith) ∙ get_or-append-add (c.l ∷ c.pattern ∷ cond c.receiving 1 0 ∷ c.d ∷ []) (c.key ++ c.iv) (16 + j) 0
      ∙ ap (λ (k : ℕ). get_or (c.key ++ c.iv) (k + j) 0) (sym w.key_is)
      ∙ get_or-append-add c.key c.iv j 0

  direction_back : (t : Bool) → eqb (cond t 1 0) 1 ≡ t
  direction_back true = refl
  direction_back false = refl

  settings_back : settings_of file ≡ c
  settings_back =
      let z : get_or file b 0 ≡ c.l = (let e : b ≡ b + 0 = omega arith in ap (λ (k : ℕ). get_or file k 0) e ∙ setting_kept 0 (omega arith)) in
      let k : take 16 (drop (b + 4) file) ≡ c.key = taken file c.key (b + 4) w.key_is (omega (arith, length_file, w.settings_inside)) key_at in
      let v : take 16 (drop (b + 20) file) ≡ c.iv = taken file c.iv (b + 20) w.iv_is (omega (arith, length_file, w.settings_inside)) iv_at in
      rw (settings_start, z, setting_kept 1 (omega arith), setting_kept 2 (omega arith), setting_kept 3 (omega arith), k, v, direction_back c.receiving)

  -- ---- the tests

  low_direction : (t : Bool) → ltb 1 (cond t 1 0) ≡ false
  low_direction true = refl
  low_direction false = refl

  no_overlap : (length r ≡ 0) ⊎ ((a + bytes_for (length r) ≤ b) ⊎ (b + 36 ≤ a)) → overlapping a (bytes_for (length r)) b 36 ≡ false
  no_overlap (inl p) = grind arith
  no_overlap (inr (inl p)) = grind arith
  no_overlap (inr (inr p)) = grind arith

  whole_ticks : (c.d ≡ 0) ⊎ ((length r % c.d ≡ 0) × (c.d * (c.l + 1) ≤ 128 * c.l)) → ragged (length r) c.d ≡ false
  whole_ticks (inl p) = grind arith
  whole_ticks (inr p) = grind arith

  slow_enough : (c.d ≡ 0) ⊎ ((length r % c.d ≡ 0) × (c.d * (c.l + 1) ≤ 128 * c.l)) → rate_refused c.l c.d ≡ false
  slow_enough (inl p) = grind arith
  slow_enough (inr p) = grind arith

  within : (start bytes : ℕ) → 16 ≤ start → start + bytes ≤ n → outside start bytes n ≡ false
  within start bytes low high = grind arith

  well_formed : malformed file ≡ false
  unfolding malformed
  well_formed =
      let short : ltb 65536 n ≡ false = le-ltb 65536 n w.short in
      let same : eqb n n ≡ true = eq-eqb n n refl in
      let long : ltb n 16 ≡ false = le-ltb n 16 (omega (arith, w.settings_after, w.settings_inside)) in
      simp (
        bits_start,
        count,
        stated,
        length_file,
        settings_start,
        setting_kept 2 (omega arith),
        setting_kept 3 (omega arith),
        short,
        same,
        long,
        within a (bytes_for (length r)) w.bits_after w.bits_inside,
        within b 36 w.settings_after w.settings_inside,
        no_overlap w.apart,
        low_direction c.receiving,
        whole_ticks w.free_or_paced,
      )

  pub read_back : contents file ≡ Ok (record { settings = c; count = length r; start = a })
  unfolding contents read_answer
  read_back =
      let l : l_of file ≡ c.l = ap (λ (s : Settings). s.l) settings_back in
      let d : d_of file ≡ c.d = ap (λ (s : Settings). s.d) settings_back in
      let done : read_answer file ≡ Ok tt =
      rw (well_formed, l, d, le-ltb c.l 1 w.l_low, le-ltb 11 c.l w.l_high, slow_enough w.free_or_paced) in
      rw done (λ i. Ok (record { settings = settings_back i; count = count i; start = bits_start i }))
