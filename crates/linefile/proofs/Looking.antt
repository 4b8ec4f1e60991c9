-- One line bit: a bit of a blackout takes one off what is left; another one is scanned, and the window moves on or the blackout begins.
use Rattle.std.proofs.Common.{◌≡◌, ◌-◌, ◌*◌, ◌<◌, ℕ, Bool, true, false, cond, None, Some, List, [], ◌∷◌, refl, sym, ap, ◌∙◌}
use Rattle.mode.specs.Scan.{Scan, more, scan}
use Rattle.mode.specs.Ends.{silent}
use Rattle.mode.proofs.Ends.{ended_dark, scanner, scanner_dark}
use Rattle.mode.proofs.Scans.{scan_none, step_scans, ended_scans}
use Rattle.bits.specs.Bits.{digits}
use Rattle.bits.proofs.Digits.{no_digits}
use Rattle.line.specs.Window.{window_bits, with_bit, window_after}
use Rattle.line.specs.declared.window.Window.{Window}
use Rattle.line.proofs.WindowBits.{moved_of, ended_of, scan_found, scan_moved}
use Rattle.linefile.specs.declared.scanner.Scanner.{Scanner}
use Rattle.linefile.specs.declared.scanner.Scanned.{Scanned}
use Rattle.linefile.specs.Inner.{rules, held, Looked}

module _ (pattern l : ℕ) (s : Scanner) (b : Bool) where
  abbrev v : ℕ
  v = cond b 1 0

  pub looks_dark : 0 < s.left → (r : Scanner) → r.window ≡ s.window → r.left ≡ s.left - 1 → Looked s b pattern l (record { scanner = r; found = false })
  looks_dark h r w e =
      let none : digits s.window.seen s.window.bits ≡ [] = ap (λ (n : ℕ). digits n s.window.bits) (s.dark h) ∙ no_digits s.window.bits in
      record {
        state = (λ i. scanner (digits (w i).seen (w i).bits) (e i)) ∙ ap (λ (u : List ℕ). scanner u (s.left - 1)) none ∙ sym (scanner_dark (rules pattern l) (digits s.window.seen s.window.bits) s.left v h);
        match = sym (ended_dark silent (rules pattern l) (held s) v h);
      }

  module _ (z : s.left ≡ 0) where
    -- what a scan of the one bit gives
    scans : (q : Scan) → scan (digits 8 pattern) (digits s.window.seen s.window.bits) (v ∷ []) ≡ q → (r : Scanned)
        → held r.scanner ≡ scanner q.window (cond q.found (128 * l) 0) → r.found ≡ q.found → Looked s b pattern l r
    scans q e r state found = record {
      state = state ∙ ap (λ (q : Scan). scanner q.window (cond q.found (128 * l) 0)) (sym e) ∙ sym (step_scans silent (rules pattern l) (held s) v z);
      match = found ∙ ap (λ (q : Scan). q.found) (sym e) ∙ sym (ended_scans silent (rules pattern l) (held s) v z);
    }

    pub looks_found : None ≡ window_after (with_bit s.window.seen s.window.bits b) pattern → (r : Scanner) → r.window.bits ≡ 0 → r.window.seen ≡ 0 → r.left ≡ 128 * l
        → Looked s b pattern l (record { scanner = r; found = true })
    looks_found e r zb zs el =
        scans _ (scan_found s.window.seen s.window.bits b pattern [] (ended_of _ _ e)) _ ((λ i. scanner (digits (zs i) (zb i)) (el i)) ∙ ap (λ (u : List ℕ). scanner u (128 * l)) (no_digits 0)) refl

    pub looks_on : (w : Window) → Some (window_bits w.seen w.bits) ≡ window_after (with_bit s.window.seen s.window.bits b) pattern → (r : Scanner) → r.window ≡ w → r.left ≡ 0
        → Looked s b pattern l (record { scanner = r; found = false })
    looks_on w m r ew el =
        scans _ (scan_moved s.window.seen s.window.bits b pattern [] w.seen w.bits (moved_of _ _ _ _ m) ∙ ap more (scan_none (digits 8 pattern) (digits w.seen w.bits))) _
        (λ i. scanner (digits (ew i).seen (ew i).bits) (el i)) refl
