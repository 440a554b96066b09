-- Calls that keep their contracts leave and answer what their steps say: so the law of the steps is theirs.
use mathlib.Core.Path.{◌≡◌, refl, sym, ap, ap₂, subst, ◌∙◌}
use mathlib.Core.List.{List, [], ◌∷◌}
use Prim.Native.Nat.{ℕ, zero, suc, ◌*◌}
use lib.IntN.{ℤ, pos}
use lib.ListN.{length, drop, replicate, length-replicate}
use lib.Seq.{take_at}
use Rattle.rules.specs.declared.Offset.{Offset}
use Rattle.rules.specs.Levels.{Near, Every, least_move_order}
use Rattle.rules.specs.Answers.{written, buffer_after, answer_for}
use Rattle.rules.specs.Series.{frame_offset}
use Rattle.rules.proofs.OffsetLaws.{length-offsets}
use Rattle.live.specs.Held.{Memory, bracket_of, held_pair}
use Rattle.live.specs.Steps.{Call, Reply, number_of, offsets_held, made, frames_in, offsets_in, if_accepted, step}
use Rattle.live_theorems.specs.Runs.{slices_of, after_call, replies, after_all}
use Rattle.live_theorems.specs.Sessions.{opened, session_after}
use Rattle.live_theorems.specs.LiveLaw.{starting, HoldsSession}
use Rattle.live_theorems.specs.CalledLists.{written_reply, told_reply, Called, put_back, CalledList, LawOfCalls, ReexposedCalls, CalledAsSteps, StepsAreCalled}
use Rattle.live_theorems.proofs.LawProof.{live-law, near-least}
use Rattle.live_theorems.proofs.ReexposedLaws.{reexposed-alike}

-- What a board reads, by the refusal number.
written-reply : (n : ℕ) → written_reply (written n) ≡ record { number = n; frames = if_accepted n 0 0; offsets = if_accepted n [] [] }
written-reply zero = refl
written-reply (suc n) = refl

told-reply : (n frames : ℕ) (out before : List ℤ) → length out ≡ 2 * frames
    → told_reply (answer_for n (if_accepted n frames 0)) (buffer_after n (if_accepted n out []) before) ≡ record { number = n; frames = if_accepted n frames 0; offsets = if_accepted n out [] }
told-reply zero frames out before size = λ i. record { number = 0; frames = frames; offsets = take_at out (drop (length out) before) (2 * frames) size i }
told-reply (suc n) frames out before size = refl

unchanged : {A : Type 0} (n : ℕ) (a : A) → a ≡ if_accepted n a a
unchanged zero a = refl
unchanged (suc n) a = refl

held-size : (numbers : List ℤ) → length (offsets_held numbers) ≡ 2 * (bracket_of numbers).frames
unfolding offsets_held
held-size numbers = length-offsets (bracket_of numbers).frames (frame_offset (held_pair numbers) 0)

-- One call.
called-step : (order : List Offset) (m : Memory) (c : Call) (m' : Memory) (r : Reply) → Called order m c m' r → (m' ≡ (step order m c).memory) × (r ≡ (step order m c).reply)
unfolding step frames_in offsets_in made
called-step order _ _ _ _ (Called.started m m' w h s tolerance percentile r call) =
    (call.memory_is, ap written_reply call.answered ∙ written-reply (number_of m (Call.Start w h s tolerance percentile)))
called-step order _ _ _ _ (Called.added m m' raster grey grey' words words' r call) =
    (call.held.memory_is, ap written_reply call.held.answered ∙ written-reply (number_of m (Call.Add raster (length grey) (length words))))
called-step order _ _ _ _ (Called.dropped m m' r call) =
    (call.memory_is, ap written_reply call.answered ∙ written-reply (number_of m Call.Drop))
called-step order _ _ _ _ (Called.told m offsets offsets' r call) =
    let n : ℕ = number_of m (Call.Tell (length offsets)) in
    (unchanged n m, ap₂ told_reply call.answered call.offsets_are ∙ told-reply n (bracket_of m.numbers).frames (offsets_held m.numbers) offsets (held-size m.numbers))

-- Lists of calls.
pub called-steps : CalledAsSteps
unfolding replies after_all
called-steps order _ _ _ _ (CalledList.none m) = (refl, refl)
called-steps order _ _ _ _ (CalledList.more m left end c cs r rs call rest) =
    let one = called-step order (slices_of m c) c.call left r call in
    let after = called-steps order (put_back left m) end cs rs rest in
    let found : put_back left m ≡ after_call order m c = ap (λ (k : Memory). put_back k m) one.0 in (
      ap₂ (λ (a : Reply) (others : List Reply). a ∷ others) one.1 (after.0 ∙ ap (λ (k : Memory). replies order k cs) found),
      after.1 ∙ ap (λ (k : Memory). after_all order k cs) found,
    )

pub law-of-calls : (order : List Offset) → Every (Near 1) order → LawOfCalls order
law-of-calls order steps m end numbers newest w h s tolerance percentile cs rs within e calls =
    let law = live-law order steps in
    let same = called-steps order m end (starting numbers newest w h s tolerance percentile ∷ cs) rs calls in (
      same.0 ∙ law.as_session m numbers newest w h s tolerance percentile cs within e,
      subst (HoldsSession (session_after (opened w h s tolerance percentile) cs)) (sym same.1) (law.held_after m numbers newest w h s tolerance percentile cs within e),
    )

pub law-of-calls-least : LawOfCalls least_move_order
law-of-calls-least = law-of-calls least_move_order near-least

pub reexposed-calls : (order : List Offset) → Every (Near 1) order → ReexposedCalls order
reexposed-calls order steps m m' end end' numbers newest w h s percentile cs cs' rs rs' within within' e alike calls calls' =
    (called-steps order m end (starting numbers newest w h s 0 percentile ∷ cs) rs calls).0
    ∙ reexposed-alike order steps m m' numbers newest w h s percentile cs cs' within within' e alike
    ∙ sym (called-steps order m' end' (starting numbers newest w h s 0 percentile ∷ cs') rs' calls').0

pub reexposed-calls-least : ReexposedCalls least_move_order
reexposed-calls-least = reexposed-calls least_move_order near-least

-- The contracts can be kept: by what the steps say, with work memory and an offset buffer of the lengths that a call names.
abbrev Keeps : List Offset → Memory → Call → Type 0
Keeps order m c = Called order m c (step order m c).memory (step order m c).reply

module _ (order : List Offset) (m : Memory) where
  start-keeps : (w h s tolerance percentile : ℕ) → Keeps order m (Call.Start w h s tolerance percentile)
  unfolding step frames_in offsets_in
  start-keeps w h s tolerance percentile =
      let c : Call = Call.Start w h s tolerance percentile in
      subst (Called order m c (step order m c).memory) (written-reply (number_of m c))
      (Called.started m (step order m c).memory w h s tolerance percentile (written (number_of m c)) (record { answered = refl; memory_is = refl }))

  add-keeps : (raster grey words : List ℕ) → Keeps order m (Call.Add raster (length grey) (length words))
  unfolding step frames_in offsets_in
  add-keeps raster grey words =
      let c : Call = Call.Add raster (length grey) (length words) in
      subst (Called order m c (step order m c).memory) (written-reply (number_of m c))
      (Called.added m (step order m c).memory raster grey grey words words (written (number_of m c))
      (record { held = record { answered = refl; memory_is = refl }; memory_kept = λ f. (refl, refl) }))

  drop_keeps : Keeps order m Call.Drop
  unfolding step frames_in offsets_in
  drop_keeps =
      subst (Called order m Call.Drop (step order m Call.Drop).memory) (written-reply (number_of m Call.Drop))
      (Called.dropped m (step order m Call.Drop).memory (written (number_of m Call.Drop)) (record { answered = refl; memory_is = refl }))

  tell-keeps : (offsets : List ℤ) → Keeps order m (Call.Tell (length offsets))
  unfolding step frames_in offsets_in made
  tell-keeps offsets =
      let c : Call = Call.Tell (length offsets) in
      let n : ℕ = number_of m c in
      let frames : ℕ = (bracket_of m.numbers).frames in
      let out : List ℤ = offsets_held m.numbers in
      subst (λ (left : Memory). Called order m c left (step order m c).reply) (unchanged n m)
      (subst (Called order m c m) (told-reply n frames out offsets (held-size m.numbers))
      (Called.told m offsets (buffer_after n (if_accepted n out []) offsets) (answer_for n (if_accepted n frames 0)) (record { answered = refl; offsets_are = refl })))

  keeps : (c : Call) → Keeps order m c
  keeps (Call.Start w h s tolerance percentile) = start-keeps w h s tolerance percentile
  keeps (Call.Add raster grey words) =
      let bytes : List ℕ = replicate grey 0 in
      subst (λ (i : ℕ). Keeps order m (Call.Add raster i words)) (length-replicate grey 0)
      (subst (λ (i : ℕ). Keeps order m (Call.Add raster (length bytes) i)) (length-replicate words 0) (add-keeps raster bytes (replicate words 0)))
  keeps Call.Drop = drop_keeps
  keeps (Call.Tell offsets) = subst (λ (i : ℕ). Keeps order m (Call.Tell i)) (length-replicate offsets (pos 0)) (tell-keeps (replicate offsets (pos 0)))

pub steps-called : StepsAreCalled
unfolding replies after_all
steps-called order m [] = CalledList.none m
steps-called order m (c ∷ cs) =
    let s : Memory = slices_of m c in
    CalledList.more m (step order s c.call).memory (after_all order m (c ∷ cs)) c cs (step order s c.call).reply (replies order (after_call order m c) cs)
    (keeps order s c.call) (steps-called order (after_call order m c) cs)
