-- A file's bits by ticks and closing: after k ticks the line holds what k ticks of the definition leave, and the output has what they sent; closing sends the
-- rest, and that is the whole stream (`closing_sends_the_rest`).
use mathlib.Core.Path.{◌≡◌, refl, sym, ap, subst, ◌∙◌}
use mathlib.Core.Bool.{false}
use mathlib.Core.List.{List, [], ◌++◌, append-nil}
use Prim.Native.Nat.{ℕ, suc, ◌+◌, ◌-◌, ◌*◌, ◌/◌, ◌%◌, ◌<◌, ◌≤◌}
use native.Mathlib.Omega.{arith}
use native.Mathlib.Nat.{suc-mul, div-add-mod', lt_of_mul-lt-mul_right, mul-le-mul_right}
use lib.ListN.{length, length-append}
use Rattle.mode.specs.Rule.{Rule, Blackout, outs}
use Rattle.mode.specs.Mode.{State}
use Rattle.mode.specs.Blocks.{Position}
use Rattle.mode.proofs.Runs.{length_outs}
use Rattle.pace.specs.Tick.{Held, hold, opened, written, ticked, closing}
use Rattle.pace.specs.Ticks.{joined, Each, ticks, sent}
use Rattle.pace.proofs.More.{ticks_more, sent_more}
use Rattle.pace.proofs.Ticks.{hold_is_large, no_tick_refused, sent_count, closing_sends_the_rest}
use Rattle.bits.specs.Bits.{part, laid}
use lib.Seq.{take_at}
use Rattle.bits.proofs.Lists.{Small, small_take}
use Rattle.bits.proofs.Parts.{small_part, length_part}
use Rattle.bits.proofs.Laid.{length_laid, laid_laid, laid_nothing}
use Rattle.line.proofs.Passing.{good_fresh}
use Rattle.line.proofs.Records.{blackout_of}
use Rattle.line.proofs.Running.{small_outs}
use Rattle.paced.proofs.Records.{rate_low}
use Rattle.paced.proofs.Reached.{viewed_reached, reached_passes}
use Rattle.line.specs.View.{aes, box, settings, rule_of, view}
use Rattle.line.specs.Good.{Good}
use Rattle.paced.specs.declared.record.Paced.{Paced}
use Rattle.paced.specs.View.{viewed, keeping}
use Rattle.paced.specs.Tests.{faulty}
use Rattle.std.specs.Prelude.{Ok}
use Rattle.paced.specs.Opening.{empty, fresh_paced, paced_answer, opened as opened_paced}
use Rattle.refusal.proofs.Answers.{given_done}
use Rattle.paced.proofs.Passing.{opens}
use Rattle.paced.specs.Ticking.{leaving_from}
use Rattle.paced.specs.Closing.{last_from}
use Rattle.linefile.specs.declared.reader.Settings.{Settings}
use Rattle.linefile.specs.declared.running.Going.{Going}
use Rattle.linefile.specs.Run.{line_of}
use Rattle.linefile.specs.Paces.{Roomy, Ticks, ticked_on, Closes, Paceable}
use Rattle.linefile.proofs.Pieces.{pieces, pieces_length, pieces_joined, pieces_each}

module _ (c : Settings) (s : List ℕ) (from n : ℕ) (o₀ : List ℕ) where
  abbrev R : Rule ℕ ℕ
  R = rule_of (line_of c)

  abbrev D : ℕ
  D = c.d

  abbrev start : State (Position (List ℕ))
  start = view (line_of c)

  -- what the line holds after k ticks, and what they sent
  abbrev held : ℕ → Held R
  held k = ticks R D (opened R (hold D) start) (pieces s from D k)

  abbrev gone : ℕ → List ℕ
  gone k = sent R D (opened R (hold D) start) (pieces s from D k)

  abbrev recorded : ℕ → Paced
  recorded k = keeping (empty (line_of c) D 0) (held k)

  -- in the middle of the ticks, i bits of n given
  pub record Pacing (o : List ℕ) (g : Going) (i : ℕ) : Type 0 where
    pub k : ℕ
    pub given : i ≡ k * D
    pub high : i ≤ n
    pub line : g.line ≡ recorded k
    pub count : g.at ≡ length (gone k)
    pub out : o ≡ laid o₀ 0 (gone k)

  module _ (byte : c.pattern < 256) (w : Paceable c (length s) from n (length o₀)) where
    low_rate : D ≤ 117
    low_rate = rate_low D c.l w.l_high w.slow

    law : Blackout R c.l
    law = blackout_of (line_of c) w.l_low

    module _ (k : ℕ) (h : k * D ≤ n) where
      each : Each D (pieces s from D k)
      each = pieces_each s from D k (omega (arith, w.there))

      good : Good (line_of c)
      good = good_fresh c.key c.iv c.pattern c.l c.receiving byte w.l_low w.l_high

      small_given : Small (joined (pieces s from D k))
      small_given = rw (pieces_joined s from D k) (small_part s from (k * D))

      passes : faulty (recorded k) ≡ false
      passes = reached_passes (line_of c) good refl D w.some w.slow (pieces s from D k) each small_given

      holds : viewed (recorded k) ≡ held k
      holds = viewed_reached (line_of c) good refl D w.some w.slow (pieces s from D k) each small_given

      gone_count : length (gone k) ≤ k * D
      gone_count =
          let e : length (gone k) ≡ length (pieces s from D k) * D - hold D =
          sent_count R D c.l (hold D) law w.some w.slow (hold_is_large D w.some) start refl (pieces s from D k) each in
          let l : length (pieces s from D k) * D ≡ k * D = ap (λ (m : ℕ). m * D) (pieces_length s from D k) in
          omega (arith, e, l)

      together : length (held k).waiting + length (held k).ready + (held k).fillers ≡ hold D
      together = (no_tick_refused R D c.l (hold D) law w.some w.slow (hold_is_large D w.some) start refl (pieces s from D k) each).together

      -- closing sends the rest
      whole : gone k ++ closing R (held k) ≡ outs R start (part s from (k * D))
      whole =
          closing_sends_the_rest R D c.l (hold D) law w.some w.slow (hold_is_large D w.some) start refl (pieces s from D k) each
          ∙ ap (outs R start) (pieces_joined s from D k)

      gone_small : Small (gone k)
      gone_small = rw (← take_at (gone k) (closing R (held k)) (length (gone k)) refl, whole) (small_take (length (gone k)) _ (small_outs (aes (box (line_of c))) (settings (line_of c)) start (part s from (k * D))))

    -- the opening is done, and no tick has been
    pub paced_opens : length c.key ≡ 16 → length c.iv ≡ 16 → opened_paced c.key c.iv c.pattern c.l c.receiving D ≡ Ok (fresh_paced (line_of c) D)
    paced_opens hk hv = rw (opens c.key c.iv c.l D hk hv w.l_low w.l_high w.some w.slow)

    pub pacing : (p : Paced) → opened_paced c.key c.iv c.pattern c.l c.receiving D ≡ Ok p → length c.key ≡ 16 → length c.iv ≡ 16
        → Pacing o₀ (record { line = p; at = 0 }) 0
    pacing p e hk hv =
        let is = given_done (paced_answer c.key c.iv c.l D) (fresh_paced (line_of c) D) p e in
        record { k = 0; given = omega arith; high = omega arith; line = sym is.1; count = refl; out = sym (laid_nothing o₀) }

    -- a whole tick is left where any bit is
    tick_left : (k : ℕ) → k * D < n → suc k * D ≤ n
    tick_left k h =
        let q : n ≡ n / D * D = sym (div-add-mod' n D) ∙ (let e : n % D ≡ 0 = w.whole in omega (arith, e)) in
        let l : k < n / D = lt_of_mul-lt-mul_right D (subst (λ (m : ℕ). k * D < m) q h) in
        let m : suc k * D ≤ n / D * D = mul-le-mul_right D l in
        omega (arith, m, q)

    module _ (o : List ℕ) (g : Going) (i : ℕ) (a : Pacing o g i) where
      there : a.k * D ≤ n
      there = omega (arith, a.given, a.high)

      leaves : leaving_from g.line ≡ written R D (held a.k)
      leaves = ap leaving_from a.line ∙ ap (λ (h : Held R). written R D h) (holds a.k there)

      lasts : last_from g.line ≡ closing R (held a.k)
      lasts = ap last_from a.line ∙ ap (λ (h : Held R). closing R h) (holds a.k there)

      long : length o ≡ length o₀
      long = ap length a.out ∙ length_laid o₀ 0 (gone a.k) (omega (arith, gone_count a.k there, w.room, there))

      -- bits laid after those that stand in the output
      on : (r : List ℕ) → laid o g.at r ≡ laid o₀ 0 (gone a.k ++ r)
      on r =
          let e : g.at ≡ 0 + length (gone a.k) = a.count ∙ (let z : length (gone a.k) ≡ 0 + length (gone a.k) = omega arith in z) in
          (λ j. laid (a.out j) (e j) r) ∙ laid_laid o₀ 0 (gone a.k) r (gone_small a.k there) (omega arith)

      clean : laid o g.at [] ≡ o
      clean = on [] ∙ ap (laid o₀ 0) (append-nil (gone a.k)) ∙ sym a.out

      -- ---- one tick more

      module _ (lt : i < n) where
        enough : suc a.k * D ≤ n
        enough = tick_left a.k (omega (arith, a.given))

        gone_next : gone (suc a.k) ≡ gone a.k ++ written R D (held a.k)
        gone_next = sent_more R D (opened R (hold D) start) (pieces s from D a.k) (part s (from + a.k * D) D)

        next_count : length (gone a.k) + length (written R D (held a.k)) ≤ n
        next_count = omega (arith, ap length gone_next ∙ length-append (gone a.k) (written R D (held a.k)), gone_count (suc a.k) enough, enough)

        fits : Roomy o g.at (leaving_from g.line)
        fits =
            let l : length (leaving_from g.line) ≡ length (written R D (held a.k)) = ap length leaves in
            record {
              few = omega (arith, l, a.count, next_count, w.few);
              room = omega (arith, l, a.count, next_count, w.room, long);
              clean = clean;
            }

        pub can_tick : Ticks g s (from + i) D o
        can_tick =
            record {
              passes = ap faulty a.line ∙ passes a.k there;
              is_open = ap (λ (p : Paced). p.closed) a.line;
              rate = ap (λ (p : Paced). p.d) a.line;
              low = omega (arith, low_rate);
              there = omega (arith, a.given, suc-mul a.k D, enough, w.there);
              writes = fits;
            }

        -- the record after the tick, over any record
        abbrev after_tick : Paced → Paced
        after_tick p = keeping p (ticked (rule_of p.line) p.d (viewed p) (part s (from + i) p.d))

        ticked_is : after_tick g.line ≡ recorded (suc a.k)
        ticked_is =
            let e : from + i ≡ from + a.k * D = ap (λ (m : ℕ). from + m) a.given in
            ap after_tick a.line
            ∙ ap (λ (h : Held R). keeping (empty (line_of c) D 0) (ticked R D h (part s (from + i) D))) (holds a.k there)
            ∙ ap (λ (m : ℕ). keeping (empty (line_of c) D 0) (ticked R D (held a.k) (part s m D))) e
            ∙ ap (keeping (empty (line_of c) D 0)) (sym (ticks_more R D (opened R (hold D) start) (pieces s from D a.k) (part s (from + a.k * D) D)))

        pub paced_on : (e : List ℕ) (h : Going) → h ≡ ticked_on g s (from + i) → e ≡ laid o g.at (leaving_from g.line) → Pacing e h (i + D)
        paced_on e h eh ee =
            record {
              k = suc a.k;
              given = omega (arith, a.given, suc-mul a.k D);
              high = omega (arith, a.given, suc-mul a.k D, enough);
              line = ap (λ (r : Going). r.line) eh ∙ ticked_is;
              count = ap (λ (r : Going). r.at) eh ∙ (λ j. a.count j + length (leaves j)) ∙ sym (ap length gone_next ∙ length-append (gone a.k) (written R D (held a.k)));
              out = ee ∙ on (leaving_from g.line) ∙ ap (laid o₀ 0) (ap (λ (r : List ℕ). gone a.k ++ r) leaves ∙ sym gone_next);
            }

      -- ---- closing

      module _ (all : n ≤ i) where
        given_all : a.k * D ≡ n
        given_all = omega (arith, a.given, a.high)

        whole_count : length (gone a.k) + length (closing R (held a.k)) ≡ n
        whole_count =
            sym (length-append (gone a.k) (closing R (held a.k)))
            ∙ ap length (whole a.k there)
            ∙ length_outs R start (part s from (a.k * D))
            ∙ length_part s from (a.k * D) (omega (arith, there, w.there))
            ∙ given_all

        pub can_close : Closes g o
        can_close =
            let l : length (last_from g.line) ≡ length (closing R (held a.k)) = ap length lasts in
            record {
              passes = ap faulty a.line ∙ passes a.k there;
              is_open = ap (λ (p : Paced). p.closed) a.line;
              holds_few = omega (arith, ap (λ (p : Paced). p.waiting) a.line, ap (λ (p : Paced). p.ready) a.line, low_rate, together a.k there);
              writes = record {
                few = omega (arith, l, a.count, whole_count, w.few);
                room = omega (arith, l, a.count, whole_count, w.room, long);
                clean = clean;
              };
            }

        pub paced_all : (e : List ℕ) → e ≡ laid o g.at (last_from g.line) → e ≡ laid o₀ 0 (outs R start (part s from n))
        paced_all e ee =
            ee ∙ on (last_from g.line) ∙ ap (laid o₀ 0) (ap (λ (r : List ℕ). gone a.k ++ r) lasts ∙ whole a.k there ∙ ap (λ (m : ℕ). outs R start (part s from m)) given_all)
