-- Demand 3 for the public paced line, sending and receiving in one statement over the direction: the records that ticks reach from an opening are those of
-- paced's `Reached`, so no test for 9 holds of them, no tick with long enough buffers is refused, and what is written is what `pace` sends. So demand 2 holds of
-- paced lines too.
use Rattle.std.specs.Prelude.{Ok}
use mathlib.Core.Path.{◌≡◌, refl, sym, ap, subst, ◌∙◌}
use mathlib.Core.Bool.{Bool, true, false}
use mathlib.Core.List.{List, [], ◌∷◌, ◌++◌, append-nil, append_assoc}
use Prim.Native.Nat.{ℕ, suc, ◌+◌, ◌-◌, ◌*◌, ◌/◌, ◌<◌, ◌≤◌}
use native.Mathlib.Omega.{arith}
use lib.ListN.{length, take}
use Rattle.refusal.specs.Numbers.{Answer, number_of, outcome}
use Rattle.bits.specs.Bits.{part}
use Rattle.bits.proofs.Lists.{Small, small_append}
use Rattle.bits.proofs.Parts.{small_part, length_part}
use Rattle.mode.specs.Rule.{Rule, outs, Blackout}
use Rattle.line.specs.declared.record.Line.{Line}
use Rattle.line.specs.View.{rule_of, view}
use Rattle.line.specs.Free.{fresh}
use Rattle.line.specs.Good.{Good}
use Rattle.line.proofs.Records.{blackout_of, bits_from_small}
use Rattle.line.proofs.Passing.{good_fresh}
use Rattle.pace.specs.Tick.{hold, Held, opened, written}
use Rattle.pace.specs.Ticks.{sent, joined, Each}
use Rattle.pace.proofs.Ticks.{sent_is_the_first, hold_is_large}
use Rattle.pace.proofs.More.{joined_more, each_more, ticks_more}
use Rattle.paced.specs.declared.record.Paced.{Paced}
use Rattle.paced.specs.Answers.{bits_in}
use Rattle.paced.specs.Tests.{faulty}
use Rattle.paced.specs.Ticking.{tick_answer, ticking}
use Rattle.paced.specs.Closing.{close_answer, close_writes}
use Rattle.paced.specs.Opening.{fresh_paced, zero_paced, opening}
use Rattle.paced.proofs.Passing.{opens, ticks as tick_answers, ticks_line, ticks_read, closes_read}
use Rattle.paced.proofs.Reached.{held_by, reached, viewed_reached, tick_reached, reached_passes as record_passes, closing_sends as last_sends}
use Rattle.promises.specs.Ticking.{Turn, Roomy, inputs, paced, wrote}
use Rattle.promises.proofs.FreeLine.{turned_back}

module _ (s : Line) (good : Good s) (scanning : s.left ≡ 0) (D : ℕ) (some : 1 ≤ D) (rate : D * (s.l + 1) ≤ 128 * s.l) where
  abbrev R : Rule ℕ ℕ
  R = rule_of s

  abbrev held : List (List ℕ) → Held R
  held is = held_by s good scanning D some rate is

  -- the record after some ticks
  abbrev P : List (List ℕ) → Paced
  P is = reached s good scanning D some rate is

  law : Blackout R s.l
  law = blackout_of s good.l_low

  walk : (cs : List Turn) (done : List (List ℕ)) → Each D done → Small (joined done) → Roomy D cs
      → (paced (P done) cs ≡ P (done ++ inputs D cs)) × (wrote (P done) cs ≡ sent R D (held done) (inputs D cs))
  walk [] done e b r = (ap P (sym (append-nil done)), refl)
  walk (c ∷ cs) done e b r =
      let i : List ℕ = part c.input 0 D in
      let passes : faulty (P done) ≡ false = record_passes s good scanning D some rate done e b in
      let m : length i ≡ D = length_part c.input 0 D (omega (arith, r.0)) in
      let small : Small (joined (done ++ (i ∷ []))) = rw (joined_more done i) (small_append (joined done) i b (small_part c.input 0 D)) in
      let next = walk cs (done ++ (i ∷ [])) (each_more D done i e m) small r.2 in
      let on : (ticking (P done) c.input c.output).line ≡ P (done ++ (i ∷ [])) =
      ticks_line (P done) passes refl c.input c.output (omega (arith, r.0)) (omega (arith, r.1)) ∙ tick_reached s good scanning D some rate done e b c.input in
      let bits = ticks_read (P done) passes refl c.input c.output (omega (arith, r.0)) (omega (arith, r.1))
      ∙ ap (λ (h : Held R). written R D h) (viewed_reached s good scanning D some rate done e b) in
      let more : held (done ++ (i ∷ [])) ≡ _ = ticks_more R D (opened R (hold D) (view s)) done i in (
        ap (λ (p : Paced). paced p cs) on ∙ next.0 ∙ ap P (append_assoc done (i ∷ []) (inputs D cs)),
        (λ j. bits j ++ (ap (λ (p : Paced). wrote p cs) on ∙ next.1 ∙ ap (λ (h : Held R). sent R D h (inputs D cs)) more) j),
      )

  each_inputs : (cs : List Turn) → Roomy D cs → Each D (inputs D cs)
  each_inputs [] r = tt
  each_inputs (c ∷ cs) r = (length_part c.input 0 D (omega (arith, r.0)), each_inputs cs r.2)

  -- no bits have been given
  none_given : Small (joined {A = ℕ} [])
  none_given i = omega arith

  small_inputs : (cs : List Turn) → Small (joined (inputs D cs))
  small_inputs [] = none_given
  small_inputs (c ∷ cs) = small_append (part c.input 0 D) (joined (inputs D cs)) (small_part c.input 0 D) (small_inputs cs)

  length_inputs : (cs : List Turn) → length (inputs D cs) ≡ length cs
  length_inputs [] = refl
  length_inputs (c ∷ cs) = ap suc (length_inputs cs)

  module _ (cs : List Turn) (roomy : Roomy D cs) where
    ticked_paced : paced (fresh_paced s D) cs ≡ P (inputs D cs)
    ticked_paced = (walk cs [] tt none_given roomy).0

    -- no tick with long enough buffers on an opened, unclosed line is refused
    pub no_tick_is_refused : (input output : List ℕ) → (D + 7) / 8 ≤ length input → (D + 7) / 8 ≤ length output → number_of (tick_answer (paced (fresh_paced s D) cs) input output) ≡ 0
    no_tick_is_refused input output i o =
        ap (λ (p : Paced). number_of (tick_answer p input output)) ticked_paced
        ∙ ap number_of (tick_answers (P (inputs D cs)) (record_passes s good scanning D some rate (inputs D cs) (each_inputs cs roomy) (small_inputs cs)) refl input output (omega arith) (omega arith))

    -- after t such ticks the bits sent are exactly the first tD - M of the proper stream, none while that is not positive, whatever bits follow
    pub sent_are_the_first : (more : List ℕ) → wrote (fresh_paced s D) cs ≡ take (length cs * D - hold D) (outs R (view s) (joined (inputs D cs) ++ more))
    sent_are_the_first more =
        (walk cs [] tt none_given roomy).1
        ∙ sent_is_the_first R D s.l (hold D) law some rate (hold_is_large D some) (view s) scanning (inputs D cs) (each_inputs cs roomy) more
        ∙ ap (λ (n : ℕ). take (n * D - hold D) (outs R (view s) (joined (inputs D cs) ++ more))) (length_inputs cs)

    -- closing into a long enough buffer sends the rest
    pub closing_sends : (output : List ℕ) → ((paced (fresh_paced s D) cs).waiting + (paced (fresh_paced s D) cs).ready + 7) / 8 ≤ length output
        → wrote (fresh_paced s D) cs ++ part (close_writes (paced (fresh_paced s D) cs) output) 0 (bits_in (close_answer (paced (fresh_paced s D) cs) output)) ≡ outs R (view s) (joined (inputs D cs))
    closing_sends output room =
        let p : Paced = P (inputs D cs) in
        let fits : (p.waiting + p.ready + 7) / 8 ≤ length output = subst (λ (q : Paced). (q.waiting + q.ready + 7) / 8 ≤ length output) ticked_paced room in
        let passes = record_passes s good scanning D some rate (inputs D cs) (each_inputs cs roomy) (small_inputs cs) in
        (λ j. (walk cs [] tt none_given roomy).1 j
        ++ (ap (λ (q : Paced). part (close_writes q output) 0 (bits_in (close_answer q output))) ticked_paced ∙ closes_read p passes refl output (omega (arith, fits))) j)
        ∙ last_sends s good scanning D some rate (inputs D cs) (each_inputs cs roomy) (small_inputs cs)

-- ---- demand 2: what one end sends by ticks and closing, the other, opened the same but for direction and given every bit, turns back into the original

module _ (key iv : List ℕ) (pattern l : ℕ) (low : 1 ≤ l) (high : l ≤ 11) (byte : pattern < 256) (D : ℕ) (some : 1 ≤ D) (rate : D * (l + 1) ≤ 128 * l) where
  abbrev end : Bool → Line
  end receiving = fresh key iv pattern l receiving

  -- an opening that no test refuses gives the line that all this is about
  pub opened_is : length key ≡ 16 → length iv ≡ 16 → (receiving : Bool)
      → opening key iv pattern l receiving D ≡ record { answer = Ok tt; line = fresh_paced (end receiving) D }
  opened_is hk hv receiving =
      ap (λ (a : Answer). record { answer = a; line = outcome a (fresh_paced (end receiving) D) zero_paced }) (opens key iv l D hk hv low high some rate)

  -- all that ticks and a closing into this output write
  abbrev all : Bool → List Turn → List ℕ → List ℕ
  all receiving cs output =
      wrote (fresh_paced (end receiving) D) cs
      ++ part (close_writes (paced (fresh_paced (end receiving) D) cs) output) 0 (bits_in (close_answer (paced (fresh_paced (end receiving) D) cs) output))

  abbrev Long : Bool → List Turn → List ℕ → Type 0
  Long receiving cs output = ((paced (fresh_paced (end receiving) D) cs).waiting + (paced (fresh_paced (end receiving) D) cs).ready + 7) / 8 ≤ length output

  pub ends_agree : (cs ds : List Turn) (o o' : List ℕ) → Roomy D cs → Roomy D ds → Long false cs o → Long true ds o'
      → joined (inputs D ds) ≡ all false cs o → all true ds o' ≡ joined (inputs D cs)
  ends_agree cs ds o o' roomy roomy' long long' every =
      let sent_all = closing_sends (end false) (good_fresh key iv pattern l false byte low high) refl D some rate cs roomy o long in
      let heard_all = closing_sends (end true) (good_fresh key iv pattern l true byte low high) refl D some rate ds roomy' o' long' in
      let bits = small_inputs (end false) (good_fresh key iv pattern l false byte low high) refl D some rate cs in
      heard_all
      ∙ ap (outs (rule_of (end true)) (view (end true))) (every ∙ sent_all)
      ∙ turned_back key iv pattern l low high byte (joined (inputs D cs)) (bits_from_small (joined (inputs D cs)) bits)
