-- Frames delimit themselves: frames, and bytes behind them that begin no frame, come apart in one way only. So the same remaining bytes
-- are the same remaining frames with the same rest behind them.
use Prim.Native.Nat.{ℕ}
use mathlib.Core.Path.{◌≡◌, refl, sym, ap, ◌∙◌}
use mathlib.Core.List.{List, [], ◌∷◌, ◌++◌, map, flatten}
use mathlib.Core.Bool.{Bool, true, false}
use Rattle.layout.proofs.BooleanLaws.{and_left, and_right, and_both}
use Rattle.reader.specs.Frames.{frame_length, is_frame}
use Rattle.model.specs.Lists.{for_all}
use Rattle.model.specs.Step.{Response}
use Rattle.model.specs.Replay.{frames_of, unread, run_frames, run_of}
use Rattle.model.proofs.JournalLaws.{frames_in_front, unread-behind-frames, all_frames, unread_no_frame}
use Rattle.confidentiality.specs.Traces.{event_of, run_trace}
use Rattle.confidentiality.specs.Purging.{mark, remaining}

pub remaining-same : (ms₁ ms₂ : List (List ℕ)) (r₁ r₂ : List ℕ) → for_all is_frame ms₁ ≡ true → for_all is_frame ms₂ ≡ true
    → frame_length r₁ ≡ 0 → frame_length r₂ ≡ 0 → flatten ms₁ ++ r₁ ≡ flatten ms₂ ++ r₂ → (ms₁ ≡ ms₂) × (r₁ ≡ r₂)
remaining-same ms₁ ms₂ r₁ r₂ f₁ f₂ z₁ z₂ e = (
  sym (frames_in_front ms₁ r₁ f₁ z₁) ∙ ap frames_of e ∙ frames_in_front ms₂ r₂ f₂ z₂,
  sym (unread-behind-frames ms₁ r₁ f₁ z₁) ∙ ap unread e ∙ unread-behind-frames ms₂ r₂ f₂ z₂,
)

-- ---- what remains of a run

module _ {S : Type 0} (accepts : List ℕ → S → Bool) (step : List ℕ → S → Response S) where
  -- each remaining frame is one of the run
  remaining-frames : (marks : List Bool) (s : S) (ms : List (List ℕ)) → for_all is_frame ms ≡ true
      → for_all is_frame (remaining (mark marks (map (event_of accepts step) (run_frames step s ms)))) ≡ true
  unfolding remaining mark run_frames for_all
  remaining-frames marks s [] f = refl
  remaining-frames [] s (m ∷ ms) f =
      and_both (and_left (is_frame m) (for_all is_frame ms) f)
      (remaining-frames [] (step m s).state ms (and_right (is_frame m) (for_all is_frame ms) f))
  remaining-frames (true ∷ marks) s (m ∷ ms) f = remaining-frames marks (step m s).state ms (and_right (is_frame m) (for_all is_frame ms) f)
  remaining-frames (false ∷ marks) s (m ∷ ms) f =
      and_both (and_left (is_frame m) (for_all is_frame ms) f)
      (remaining-frames marks (step m s).state ms (and_right (is_frame m) (for_all is_frame ms) f))

  pub run-remaining-same : (s₁ s₂ : S) (j₁ j₂ : List ℕ) (marks₁ marks₂ : List Bool)
      → flatten (remaining (mark marks₁ (run_trace accepts step s₁ j₁).events)) ++ (run_trace accepts step s₁ j₁).rest
      ≡ flatten (remaining (mark marks₂ (run_trace accepts step s₂ j₂).events)) ++ (run_trace accepts step s₂ j₂).rest
      → (remaining (mark marks₁ (run_trace accepts step s₁ j₁).events) ≡ remaining (mark marks₂ (run_trace accepts step s₂ j₂).events))
      × ((run_trace accepts step s₁ j₁).rest ≡ (run_trace accepts step s₂ j₂).rest)
  unfolding run_trace run_of
  run-remaining-same s₁ s₂ j₁ j₂ marks₁ marks₂ =
      remaining-same _ _ _ _ (remaining-frames marks₁ s₁ (frames_of j₁) (all_frames j₁)) (remaining-frames marks₂ s₂ (frames_of j₂) (all_frames j₂))
      (unread_no_frame j₁) (unread_no_frame j₂)
