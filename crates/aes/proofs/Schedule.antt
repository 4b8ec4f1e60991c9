-- The round keys laid out as states. The cipher by them is the cipher by their words, since `columns` turns them back; and a list that gets
-- one more of them at a turn holds them all after ten. Assumes nothing.
use mathlib.Core.Path.{◌≡◌, refl, ap, sym, ◌∙◌}
use mathlib.Core.List.{List, [], ◌∷◌, ◌++◌, map}
use Prim.Native.Nat.{ℕ, zero, suc, ◌+◌, ◌<◌}
use native.Mathlib.Numerals.{add-one}
use native.Mathlib.Omega.{arith}
use lib.ListN.{length, get_or, set, take, drop, replicate, get_or-map, length-drop}
use lib.Seq.{get_or-take, get_or-drop, length-take-le}
use Rattle.aes.specs.State.{State, Word, many, columns, to_words, to_state, from_state}
use Rattle.aes.specs.Steps.{sub_bytes, shift_rows, mix_columns, add_round_key}
use Rattle.aes.specs.KeyExpansion.{xor_word, next_key, rcon, round_key, key_expansion}
use Rattle.aes.specs.Cipher.{round_of, rounds, cipher, aes128}
use Rattle.aes.specs.Schedule.{schedule, cipher_by}
use Rattle.aes.proofs.Lists.{front_more, many_at}

-- 16 bytes come out
pub cipher_length : (w : List (List Word)) (block : List ℕ) → length (cipher w block) ≡ 16
unfolding cipher from_state
cipher_length w block = refl

pub aes_length : (key block : List ℕ) → length (aes128 key block) ≡ 16
unfolding aes128
aes_length key block = cipher_length (key_expansion key) block

-- a round key that was laid out and is read by its columns is the same again
again : (w : List Word) → columns (columns w) ≡ w → (n : ℕ) → columns (columns (round_key w n)) ≡ round_key w n
unfolding columns xor_word next_key round_key
again w e zero = e
again w e (suc n) = refl

all_again : (w : List Word) → columns (columns w) ≡ w → (n k : ℕ) → map columns (map columns (many (round_key w) n k)) ≡ many (round_key w) n k
all_again w e n zero = refl
all_again w e n (suc k) = rw (again w e n, all_again w e (suc n) k)

words_again : (key : List ℕ) → columns (columns (to_words key)) ≡ to_words key
unfolding columns to_words
words_again key = refl

-- the cipher by the round keys of a key is AES by that key
pub by_schedule : (key block : List ℕ) → cipher_by (schedule key) block ≡ aes128 key block
unfolding cipher_by schedule aes128 key_expansion
by_schedule key block = ap (λ (w : List (List Word)). cipher w block) (all_again (to_words key) (words_again key) 0 11)

-- adding round key i by its words; past the end both add nothing
key_at : (s : State) (ks : List State) (i : ℕ) → add_round_key s (columns (get_or ks i [])) ≡ add_round_key s (get_or (map columns ks) i [])
unfolding add_round_key columns
key_at s [] i = refl
key_at s (k ∷ ks) zero = refl
key_at s (k ∷ ks) (suc i) = key_at s ks i

-- a turn of the rounds, by the key that is next among those of the rounds 1 to 9
pub rounded : (ks : List State) (s₀ s x : State) (i : ℕ) → i < 9 → s ≡ rounds (map columns ks) s₀ i
    → x ≡ round_of s (columns (get_or (take 9 (drop 1 ks)) i [])) → x ≡ rounds (map columns ks) s₀ (i + 1)
unfolding rounds round_of
rounded ks s₀ s x i h es ex =
    let n : 1 + i ≡ suc i = omega arith in
    let k : get_or (take 9 (drop 1 ks)) i [] ≡ get_or ks (suc i) [] = get_or-take 9 (drop 1 ks) i [] h ∙ get_or-drop 1 ks i [] ∙ rw n in
    ex ∙ ap (λ (w : State). round_of s (columns w)) k ∙ key_at (mix_columns (shift_rows (sub_bytes s))) ks (suc i) ∙ rw (es, add-one)

-- there are nine of them
pub nine : (ks : List State) → length ks ≡ 11 → length (take 9 (drop 1 ks)) ≡ 9
nine ks e = length-take-le 9 (drop 1 ks) (omega (arith, e, length-drop 1 ks))

-- the whole cipher, step by step
pub ciphered : (ks : List State) (block r : List ℕ) (a s₀ s b d e : State) (i : ℕ) → a ≡ to_state block → s₀ ≡ add_round_key a (columns (get_or ks 0 []))
    → i ≡ 9 → s ≡ rounds (map columns ks) s₀ i → b ≡ sub_bytes s → d ≡ shift_rows b → e ≡ add_round_key d (columns (get_or ks 10 [])) → r ≡ from_state e
    → r ≡ cipher_by ks block
unfolding cipher_by cipher
ciphered ks block r a s₀ s b d e i ea e₀ ei es eb ed ee er =
    let first : s₀ ≡ add_round_key (to_state block) (get_or (map columns ks) 0 []) = e₀ ∙ key_at a ks 0 ∙ rw ea in
    er ∙ ap from_state (ee ∙ key_at d ks 10) ∙ rw (ed, eb, es, ei, first)

-- the round keys 1 to 10 of the words w, laid out
abbrev pub later : List Word → List State
later w = map columns (many (round_key w) 1 10)

later_length : (w : List Word) → length (later w) ≡ 10
later_length w = refl

later_at : (w : List Word) (i : ℕ) → i < 10 → get_or (later w) i (columns []) ≡ columns (round_key w (i + 1))
later_at w i h =
    let n : 1 + i ≡ i + 1 = omega arith in
    get_or-map columns (many (round_key w) 1 10) i [] ∙ ap columns (many_at (round_key w) [] 1 10 i h ∙ ap (round_key w) n)

-- the next round key
pub next_key_is : (w₀ w n : List Word) (c i : ℕ) → w ≡ round_key w₀ i → c ≡ rcon i → n ≡ next_key w c → n ≡ round_key w₀ (i + 1)
unfolding round_key
next_key_is w₀ w n c i ew ec en = rw (en, ew, ec, add-one)

-- the list with one round key more
pub later_more : (d ks : List State) (p : State) (w₀ n : List Word) (i : ℕ) → i < 10 → length d ≡ 10 → ks ≡ take i (later w₀) ++ drop i d
    → n ≡ round_key w₀ (i + 1) → p ≡ columns n → set ks i p ≡ take (i + 1) (later w₀) ++ drop (i + 1) d
later_more d ks p w₀ n i hi hd e en ep =
    ap (set ks i) (ep ∙ ap columns en ∙ sym (later_at w₀ i hi))
    ∙ front_more d (later w₀) ks i (columns []) (omega arith) (omega (arith, later_length w₀)) e

-- the list after the last turn
pub later_all : (p : State) (ks : List State) (w : List Word) (key : List ℕ) (i : ℕ) → i ≡ 10 → ks ≡ take i (later w) ++ drop i (replicate 10 p)
    → p ≡ columns w → w ≡ to_words key → p ∷ (ks ++ []) ≡ schedule key
unfolding round_key schedule key_expansion
later_all p ks w key i ei e ep ew = rw (e, ei, ep, ew)

-- what the turns of the expansion come to, and those of the cipher
pub ruleset expanding = (later_more, next_key_is)

pub ruleset enciphering = (rounded, nine, ciphered)
