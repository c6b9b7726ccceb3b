-- What is told of the last model.
use Rattle.std.proofs.Common.{◌≡◌, ℕ, ◌<◌, ◌≤◌, Bool, true, false, not, ◌&&◌, cond, Some, None, refl, sym, ap, ◌∙◌}
use Rattle.sat_terms.specs.Cubes.{is_among}
use Rattle.implicant_shrink.specs.Levels.{marked}
use Rattle.live_engine.specs.declared.search.Search.{Search}
use Rattle.live_engine.specs.Values.{hidden_literals}
use Rattle.live_engine.specs.Searching.{model_of, IsGround}
use Rattle.live_engine.specs.Engines.{value_told}
use Rattle.live_engine.proofs.Implicants.{told_shown, told_hidden}

pub hidden_told : (s : Search) → IsGround s → (v : ℕ) → 0 < v → v ≤ s.variables →
    cond (s.has_model && not (marked s.is_shown.items v)) (Some (marked s.values.items v)) None ≡ value_told (model_of s) v
hidden_told s g v low high = by_model s.has_model
  where
    by_shown : (b : Bool) → is_among s.shown.items v ≡ b → cond (not b) (Some (marked s.values.items v)) None ≡ value_told (Some (hidden_literals s.variables s.shown.items (marked s.values.items))) v
    by_shown true e = sym (told_shown s.variables s.shown.items (marked s.values.items) v e)
    by_shown false e = sym (told_hidden s.variables s.shown.items (marked s.values.items) v low high e)

    by_model : (h : Bool) → cond (h && not (marked s.is_shown.items v)) (Some (marked s.values.items v)) None
        ≡ value_told (cond h (Some (hidden_literals s.variables s.shown.items (marked s.values.items))) None) v
    by_model true = ap (λ b. cond (not b) (Some (marked s.values.items v)) None) (g.table.tells v high) ∙ by_shown (is_among s.shown.items v) refl
    by_model false = refl
