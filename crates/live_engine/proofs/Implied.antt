-- Propagation keeps a job working.
use Rattle.std.proofs.Common.{◌≡◌, ℕ, ◌≤◌, Bool, true, false, ◌&&◌, ℤ, nat_abs, List, [], ◌∷◌, ◌++◌, get_or, is_some, refl, sym, ap, subst, ◌∙◌, append_assoc, append-nil, arith, All}
use Rattle.std.specs.List.{list_all}
use Rattle.sat_terms.specs.Literals.{IsLiteralOf}
use Rattle.sat_terms.proofs.CubeLemmas.{All-literal}
use Rattle.search_region.specs.Trail as picture
use Rattle.search_region.specs.Steady.{Steady, Follows}
use Rattle.search_region.specs.Region.{left_open}
use Rattle.search_region.specs.Work.{work}
use Rattle.search_region.proofs.Agree.{levels_within}
use Rattle.search_region.proofs.Work.{work_push}
use Rattle.search_job.specs.Weights.{weights}
use Rattle.search_job.specs.Working.{Working}
use Rattle.search_job.proofs.Imply.{imply_keeps_working}
use Rattle.search_job.proofs.Leaf.{shut_undecided}
use Rattle.chrono_trail.specs.declared.item.Item.{Item}
use Rattle.chrono_trail.specs.Items.{is_upto}
use Rattle.chrono_trail.specs.Pictures.{pictured, picture_of, kind_of}
use Rattle.chrono_trail.proofs.Clauses.{low_rest}
use Rattle.chrono_trail.proofs.Pictures.{picture-push, all-picture, is_assigned-picture}
use Rattle.chrono_trail.proofs.Reasons.{pictured_reason}
use Rattle.propagation.specs.Steps.{IsImplied, AreImplied}
use Rattle.propagation.proofs.Reasons.{implied_reason}
use Rattle.live_engine.proofs.Looks.{steady_distinct}

-- the items of a steady trail are at most of its level
pub steady_low : (f clauses : List (List ℤ)) (shown : ℕ → Bool) (k : ℕ) (items : List Item) → Steady f shown (picture_of clauses items) →
    picture.depth (picture_of clauses items) ≤ k → list_all (is_upto k) items ≡ true
steady_low f clauses shown k items s deep =
    sym (all-picture clauses (picture.upto k) items) ∙ levels_within f shown k (picture_of clauses items) s deep

module _ (f clauses : List (List ℤ)) (shown : ℕ → Bool) (n base v : ℕ) (count : ℕ → ℕ) (q : List ℤ) (found : List (List ℤ)) (leaves : ℕ) (named : All (All (IsLiteralOf v)) clauses) (follow : All (Follows f) clauses) where
  -- the job works on with newer items, and no more is left to do or open
  pub record WorksOn (old new : List Item) : Type 0 where
    pub working : Working f shown n base count q (picture_of clauses new) found leaves
    pub less : work v (picture_of clauses new) ≤ work v (picture_of clauses old)
    pub weight : weights n (left_open shown base (picture_of clauses new)) ≤ weights n (left_open shown base (picture_of clauses old))
    pub deep : picture.depth (picture_of clauses new) ≡ picture.depth (picture_of clauses old)

  -- an implied item opens nothing
  open_same : (i : picture.Item) (c : List ℤ) (trail : List picture.Item) → i.kind ≡ picture.Implied c →
      left_open shown base (i ∷ trail) ≡ left_open shown base trail
  open_same i c trail implied =
      rw (shut_undecided shown base i (ap picture.is_decided implied), implied, and_false (picture.seen shown i)) refl
    where
      and_false : (b : Bool) → (b && false) ≡ false
      and_false true = refl
      and_false false = refl

  implied_works : (items : List Item) (i : Item) → IsImplied clauses items i →
      Working f shown n base count q (picture_of clauses items) found leaves → WorksOn items (items ++ i ∷ [])
  implied_works items i h w =
      let steady = w.running.steady in
      let c = get_or clauses h.id [] in
      let e = pictured clauses i in
      let trail = picture_of clauses items in
      let implied : e.kind ≡ picture.Implied c = ap (kind_of clauses) h.kind in
      let lit = All-literal (IsLiteralOf v) c i.lit (named h.id [] h.inside) h.unit.among in
      let level = h.level in
      let low = low_rest items i.lit (picture.depth trail) c (steady_low f clauses shown (picture.depth trail) items steady (omega arith)) in
      let fresh : picture.is_assigned (nat_abs i.lit) trail ≡ false = is_assigned-picture clauses (nat_abs i.lit) items ∙ ap is_some h.unit.free in
      let now : picture_of clauses (items ++ i ∷ []) ≡ e ∷ trail = picture-push clauses items i in
      let fewer = work_push v e trail lit.0 lit.1 fresh in
      record {
        working = subst (λ t. Working f shown n base count q t found leaves) (sym now)
            (imply_keeps_working f shown n base count q trail found leaves e c w implied (omega arith) lit.0 fresh
            (follow h.id [] h.inside)
            (pictured_reason clauses items i c (implied_reason clauses items i h.id (steady_distinct f clauses shown items steady) h h.kind)));
        less = subst (λ t. work v t ≤ work v trail) (sym now) (omega arith);
        weight = subst (λ t. weights n (left_open shown base t) ≤ weights n (left_open shown base trail)) (sym now)
            (let same = ap (weights n) (open_same e c trail implied) in omega arith);
        deep = ap picture.depth now ∙ (rw implied refl);
      }

  pub propagation_works : (added items : List Item) → AreImplied clauses items added →
      Working f shown n base count q (picture_of clauses items) found leaves → WorksOn items (items ++ added)
  propagation_works [] items h w = subst (WorksOn items) (sym (append-nil items)) (record { working = w; less = omega arith; weight = omega arith; deep = refl })
  propagation_works (i ∷ added) items h w =
      let one = implied_works items i h.0 w in
      let more = propagation_works added (items ++ i ∷ []) h.1 one.working in
      let one_less = one.less in
      let more_less = more.less in
      let one_open = one.weight in
      let more_open = more.weight in
      subst (WorksOn items) (append_assoc items (i ∷ []) added)
      (record { working = more.working; less = omega arith; weight = omega arith; deep = more.deep ∙ one.deep })
