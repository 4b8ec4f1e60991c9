-- What a file that is not refused gives the runs of its line, and that the output holds what it answers.
use Rattle.std.proofs.Common.{◌≡◌, List, ℕ, ◌*◌, ◌≤◌, Ok, length, arith, subst}
use Rattle.linefile.specs.declared.reader.Contents.{Contents}
use Rattle.linefile.specs.File.{bits_at, count_of, settings_of, d_of, read_answer, contents}
use Rattle.linefile.specs.Run.{ran_answer, ran}
use Rattle.linefile.specs.Paces.{Freed, Paceable}
use Rattle.linefile.proofs.Areas.{passed, formed, bits_inside, done}

module _ (s : List ℕ) (read : read_answer s ≡ Ok tt) (o : ℕ) (room : count_of s ≤ 8 * o) where
  frees : Freed (record { settings = settings_of s; count = count_of s; start = bits_at s }) (length s) o
  frees =
      let p = passed s read in record {
        l_low = grind (arith, p.blackout);
        l_high = grind (arith, p.blackout);
        there = (bits_inside s read).0;
        few = omega (arith, (bits_inside s read).1);
        room = room;
      }

  paces : (d_of s ≡ 0 → ⊥) → Paceable (settings_of s) (length s) (8 * bits_at s) (count_of s) o
  paces some =
      let p = passed s read in
      let f = formed s p.is_formed in record {
        l_low = grind (arith, p.blackout);
        l_high = grind (arith, p.blackout);
        some = omega (arith, some);
        slow = grind (arith, p.rate, some);
        whole = grind (arith, f.whole_ticks, some);
        there = (bits_inside s read).0;
        few = (bits_inside s read).1;
        room = room;
      }

-- of what was read
module _ (s : List ℕ) (c : Contents) (e : contents s ≡ Ok c) (o : ℕ) where
  pub free_needs : c.count ≤ 8 * o → Freed c (length s) o
  free_needs = subst (λ (c : Contents). c.count ≤ 8 * o → Freed c (length s) o) (done s c e).1 (frees s (done s c e).0 o)

  pub paced_needs : c.count ≤ 8 * o → (c.settings.d ≡ 0 → ⊥) → Paceable c.settings (length s) (8 * c.start) c.count o
  paced_needs =
      subst (λ (c : Contents). c.count ≤ 8 * o → (c.settings.d ≡ 0 → ⊥) → Paceable c.settings (length s) (8 * c.start) c.count o) (done s c e).1 (paces s (done s c e).0 o)

pub result_fits : (s o : List ℕ) (n : ℕ) → ran s o ≡ Ok n → n ≤ 8 * length o
unfolding ran_answer
result_fits s o n e = grind arith
