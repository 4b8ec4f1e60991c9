-- The table of points, from the definitions: by computation but for P8, which holds for every V since the blackout's bits become the counter.
use mathlib.Core.Path.{◌≡◌, refl, ap, subst, ◌∙◌}
use mathlib.Core.Bool.{true}
use mathlib.Core.List.{List, [], ◌∷◌}
use Prim.Native.Nat.{ℕ, ◌*◌}
use native.Mathlib.Omega.{arith}
use lib.ListN.{length, take, length-take}
use lib.Seq.{take_all}
use Rattle.aes.proofs.Examples.{product_example, s_box_example, s_box_of_zero}
use Rattle.bits.specs.Bits.{bits_of, pack, digits}
use Rattle.bits.proofs.Lists.{Bytes}
use Rattle.bits.proofs.Packed.{length_bits, pack_bits}
use Rattle.counter.proofs.Points.{p1_to_p5}
use Rattle.mode.specs.Mode.{step, same, opened}
use Rattle.mode.proofs.Steps.{blackout}
use Rattle.mode.proofs.Words.{finds_sets, received}
use Rattle.line.specs.View.{box, aes, settings, rule_of, view}
use Rattle.line.specs.Free.{fresh}
use Rattle.pace.proofs.Points as Paced
use Rattle.promises.specs.Points.{heard, Points}

module _ (key iv : List ℕ) where
  p8 : (v : List ℕ) → length v ≡ 16 → Bytes v → heard key iv 0x80 136 (0x80 ∷ v) ≡ opened (record { counter = v; place = 0 })
  unfolding step same digits bits_of
  p8 v e b =
      let long : length (bits_of v) ≡ 128 = length_bits v ∙ ap (λ (k : ℕ). 8 * k) e in
      let all : take 128 (bits_of v) ≡ bits_of v = take_all 128 (bits_of v) (omega (arith, long)) in
      let g = fresh key iv 0x80 1 true in
      let ws : List ℕ = take 128 (bits_of v) in
      received (aes (box g)) (settings g) (view g) (1 ∷ 0 ∷ 0 ∷ 0 ∷ 0 ∷ 0 ∷ 0 ∷ 0 ∷ ws)
      ∙ finds_sets (aes (box g)) (settings g) (view g) (1 ∷ 0 ∷ 0 ∷ 0 ∷ 0 ∷ 0 ∷ 0 ∷ []) 0 ws (omega arith) (record { scanning = refl; match = refl })
      (simp length-take (omega (arith, long)))
      ∙ ap (λ (l : List ℕ). opened (record { counter = pack 16 l; place = 0 })) (take_all 128 ws (simp length-take (omega arith)) ∙ all)
      ∙ ap (λ (l : List ℕ). opened (record { counter = l; place = 0 })) (subst (λ (n : ℕ). pack n (bits_of v) ≡ v) e (pack_bits v b))

  pub points : Points key iv
  unfolding step same digits bits_of pack
  points = record {
    p1 = p1_to_p5.0;
    p2 = p1_to_p5.1;
    p3 = p1_to_p5.2;
    p4 = p1_to_p5.3;
    p5 = p1_to_p5.4;
    p6 = product_example;
    p7 = (s_box_example, s_box_of_zero);
    p8 = p8;
    p9 = (refl, refl, refl, refl);
    p10 = (refl, refl);
    p11 = refl;
    p12 = (refl, refl);
    p13 = λ pattern receiving. (let g = fresh key iv pattern 1 receiving in Paced.p13 (rule_of g) (view g) refl (blackout (aes (box g)) (settings g) 1 (omega arith) refl));
  }
