use Rattle.std.proofs.Common.{◌≡◌, ◌++◌, [], ◌∷◌, ◌+◌, ◌<◌, ◌≤◌, ◌^◌, ℕ, get_or, set, take, length, Some, None, Option, ℤ, pos, neg_ℤ, nat_abs, List, sym, ap, subst, ◌∙◌, filter_map, arith, Vec, Global, length-set}
use Rattle.std.proofs.lemmas.List.{take_all, take_more}
use Rattle.sat_terms.proofs.Machine.{nat_abs-bits}
use Rattle.search_region.specs.Trail as picture
use Rattle.search_job.specs.Open.{untried_cubes, left_cubes}
use Rattle.search_job.specs.Same.{front_cube}
use Rattle.chrono_trail.specs.declared.item.Kind.TheVariants.{Assumed}
use Rattle.chrono_trail.specs.declared.item.Item.{Item}
use Rattle.chrono_trail.specs.Pictures.{pictured, picture_of}
use Rattle.chrono_trail.proofs.Pictures.{picture-push}
use Rattle.live_engine.specs.Marks.{AreMarkedBy}
use Rattle.live_engine.proofs.Literals.{literal_fits, negated, negation_fits}
use Rattle.live_engine.proofs.Literals.{item_small, item_low}
use Rattle.live_engine.proofs.Marking.{AreMarkedBeside, HasSided, marks_cube, marked, plain_is, beside, set_beside, side_marked, open_step, shut_step}
use Rattle.live_engine.proofs.search.Search.open_cubes.Goals as goal
use Rattle.live_engine.proofs.search.Search.open_cubes.Goals.{then-is_open+in_ok-marked_cube+in_ok-push, else-is_open}

pub marked_cube-requires-clause-marks : goal.marked_cube-requires-clause-marks
marked_cube-requires-clause-marks c =
    let s = c.args.self.now in
    let items = s.trail.items in
    let i : ℕ = c.loop-item.item-index in
    let none : Item = record { lit = pos 0; level = 0; kind = Assumed } in
    let same = c.items-item-items.ensures.items in
    let e : Item = get_or c.items-item-items.result.now i none in
    let inside = subst (λ xs. i < length xs) same c.loop-item-test.true in
    let older = picture_of s.arena.clauses (take i items) in
    let d = pictured s.arena.clauses e in
    let small : nat_abs e.lit < 2 ^ 31 = subst (λ xs. nat_abs (get_or xs i none).lit < 2 ^ 31) (sym same) (item_small s.trail.variables items s.trail.level i none c.items-item-items.ensures.trail inside) in
    let low : nat_abs e.lit ≤ s.trail.variables = subst (λ xs. nat_abs (get_or xs i none).lit ≤ s.trail.variables) (sym same) (item_low s.trail.variables items s.trail.level i none c.items-item-items.ensures.trail inside) in
    let wide = c.requires.ground.trail in
    let long = c.loop-item.invariant.long in
    let marks = c.loop-item.marks.items in
    let at : c.unsigned_abs.result ≡ nat_abs e.lit = c.unsigned_abs.ensures.value ∙ nat_abs-bits e.lit (literal_fits e.lit small) in
    record {
      trail = picture.flip (picture.depth older) d ∷ older;
      told = subst (λ m. AreMarkedBy s.variables m (picture.flip (picture.depth older) d ∷ older))
          (sym (c.deref.ensures.value ∙ c.mark.ensures ∙ ap (λ (z : ℤ). set marks c.unsigned_abs.result (Some z)) (negated e.lit small)))
          (side_marked s.variables marks older d c.unsigned_abs.result at (omega arith) c.loop-item.invariant.marks);
    }

pub mark-requires-in-loop-item : goal.mark-requires-in-loop-item
mark-requires-in-loop-item c =
    let s = c.args.self.now in
    let items = s.trail.items in
    let i : ℕ = c.loop-item.item-index in
    let none : Item = record { lit = pos 0; level = 0; kind = Assumed } in
    let same = c.items-item-items.ensures.items in
    let e : Item = get_or c.items-item-items.result.now i none in
    let inside = subst (λ xs. i < length xs) same c.loop-item-test.true in
    let older = picture_of s.arena.clauses (take i items) in
    let d = pictured s.arena.clauses e in
    let small : nat_abs e.lit < 2 ^ 31 = subst (λ xs. nat_abs (get_or xs i none).lit < 2 ^ 31) (sym same) (item_small s.trail.variables items s.trail.level i none c.items-item-items.ensures.trail inside) in
    let low : nat_abs e.lit ≤ s.trail.variables = subst (λ xs. nat_abs (get_or xs i none).lit ≤ s.trail.variables) (sym same) (item_low s.trail.variables items s.trail.level i none c.items-item-items.ensures.trail inside) in
    let wide = c.requires.ground.trail in
    let long = c.loop-item.invariant.long in
    let marks = c.loop-item.marks.items in
    let at : c.unsigned_abs-in-loop-item.result ≡ nat_abs e.lit = c.unsigned_abs-in-loop-item.ensures.value ∙ nat_abs-bits e.lit (literal_fits e.lit small) in
    let mid : length c.if-is_open.marks.items ≡ s.variables + 1 = elim c.if-is_open.branch [
      | then-is_open+in_ok-marked_cube+in_ok-push w ↦
          ap (λ (v : Vec (Option ℤ) Global). length v.items) w.marks-is ∙ ap length w.mark.ensures
          ∙ length-set marks w.unsigned_abs.result _ ∙ long
      | else-is_open w ↦ ap (λ (v : Vec (Option ℤ) Global). length v.items) w.marks-is ∙ long
    ] in
    omega arith

pub loop-item-preserved : goal.loop-item-preserved
loop-item-preserved c =
    let s = c.args.self.now in
    let items = s.trail.items in
    let i : ℕ = c.loop-item.item-index in
    let none : Item = record { lit = pos 0; level = 0; kind = Assumed } in
    let same = c.items-item-items.ensures.items in
    let e : Item = get_or c.items-item-items.result.now i none in
    let inside = subst (λ xs. i < length xs) same c.loop-item-test.true in
    let older = picture_of s.arena.clauses (take i items) in
    let d = pictured s.arena.clauses e in
    let small : nat_abs e.lit < 2 ^ 31 = subst (λ xs. nat_abs (get_or xs i none).lit < 2 ^ 31) (sym same) (item_small s.trail.variables items s.trail.level i none c.items-item-items.ensures.trail inside) in
    let low : nat_abs e.lit ≤ s.trail.variables = subst (λ xs. nat_abs (get_or xs i none).lit ≤ s.trail.variables) (sym same) (item_low s.trail.variables items s.trail.level i none c.items-item-items.ensures.trail inside) in
    let wide = c.requires.ground.trail in
    let long = c.loop-item.invariant.long in
    let marks = c.loop-item.marks.items in
    let at : c.unsigned_abs-in-loop-item.result ≡ nat_abs e.lit = c.unsigned_abs-in-loop-item.ensures.value ∙ nat_abs-bits e.lit (literal_fits e.lit small) in
    let p = s.shown.items in
    let mid : HasSided s.variables (nat_abs e.lit) p s.base c.if-is_open.marks.items c.if-is_open.cubes.items d older =
    elim c.if-is_open.branch [
      | then-is_open+in_ok-marked_cube+in_ok-push w ↦
          let at : w.unsigned_abs.result ≡ nat_abs e.lit = w.unsigned_abs.ensures.value ∙ nat_abs-bits e.lit (literal_fits e.lit small) in
          let set_is : w.mark.new.marks.items ≡ set marks w.unsigned_abs.result (Some (neg_ℤ e.lit)) = w.mark.ensures ∙ ap (λ (z : ℤ). set marks w.unsigned_abs.result (Some z)) (negated e.lit small) in
          let now : c.if-is_open.marks.items ≡ set marks w.unsigned_abs.result (Some (neg_ℤ e.lit)) = ap (λ (v : Vec (Option ℤ) Global). v.items) w.marks-is ∙ set_is in
          record {
            long = ap length now ∙ length-set marks w.unsigned_abs.result (Some (neg_ℤ e.lit)) ∙ long;
            marks = subst (λ m. AreMarkedBeside (nat_abs e.lit) s.variables m older) (sym (now ∙ ap (λ k. set marks k (Some (neg_ℤ e.lit))) at))
                (set_beside (nat_abs e.lit) s.variables marks older (Some (neg_ℤ e.lit)) (beside (nat_abs e.lit) s.variables marks older c.loop-item.invariant.marks));
            cubes = ap (λ (v : Vec (List ℤ) Global). v.items) w.cubes-is ∙ w.in_ok-push.ensures.items
                ∙ open_step s.variables marks p s.base older d w.unsigned_abs.result c.requires.ground.shown.named at (omega arith) c.loop-item.invariant.marks
                (sym c.is_open.ensures ∙ w.if-is_open.true) c.loop-item.cubes.items w.in_ok-marked_cube.field-0 c.loop-item.invariant.cubes
                (w.in_ok-marked_cube.ensures ∙ ap (λ m. filter_map (λ v. get_or m v None) p) (w.deref.ensures.value ∙ set_is));
          }
      | else-is_open w ↦ record {
        long = ap (λ (v : Vec (Option ℤ) Global). length v.items) w.marks-is ∙ long;
        marks = subst (λ (v : Vec (Option ℤ) Global). AreMarkedBeside (nat_abs e.lit) s.variables v.items older) (sym w.marks-is)
            (beside (nat_abs e.lit) s.variables marks older c.loop-item.invariant.marks);
        cubes = ap (λ (v : Vec (List ℤ) Global). v.items) w.cubes-is
            ∙ shut_step p s.base older d (sym c.is_open.ensures ∙ w.if-is_open.false) c.loop-item.cubes.items c.loop-item.invariant.cubes;
      }
    ] in
    let mid_long = mid.long in
    let now : picture_of s.arena.clauses (take (i + 1) items) ≡ d ∷ older =
    ap (picture_of s.arena.clauses) (take_more items i none inside) ∙ picture-push s.arena.clauses (take i items) (get_or items i none)
    ∙ ap (λ ys. pictured s.arena.clauses (get_or ys i none) ∷ older) (sym same) in
    record {
      long = ap length c.mark-in-loop-item.ensures ∙ length-set c.if-is_open.marks.items c.unsigned_abs-in-loop-item.result c.plain_literal.result ∙ mid.long;
      marks = subst (AreMarkedBy s.variables c.mark-in-loop-item.new.marks.items) (sym now)
          (subst (λ m. AreMarkedBy s.variables m (d ∷ older)) (sym c.mark-in-loop-item.ensures)
          (marked s.variables c.if-is_open.marks.items older d c.unsigned_abs-in-loop-item.result c.plain_literal.result at (omega arith)
          (c.plain_literal.ensures ∙ plain_is s.arena.clauses e)
          (subst (λ k. AreMarkedBeside k s.variables c.if-is_open.marks.items older) (sym at) mid.marks)));
      cubes = mid.cubes ∙ ap (untried_cubes s.shown.items s.base) (sym now);
    }

pub marked_cube-requires-2-clause-marks : goal.marked_cube-requires-2-clause-marks
marked_cube-requires-2-clause-marks c =
    let s = c.args.self.now in
    record {
      trail = picture_of s.arena.clauses (take c.loop-item.item-index s.trail.items);
      told = subst (λ m. AreMarkedBy s.variables m (picture_of s.arena.clauses (take c.loop-item.item-index s.trail.items))) (sym c.deref-2.ensures.value) c.loop-item.invariant.marks;
    }

pub returns : goal.returns
returns c =
    let s = c.args.self.now in
    let past = subst (λ xs. length xs ≤ c.loop-item.item-index) c.items-item-items.ensures.items c.loop-item-test.false in
    let whole = ap (picture_of s.arena.clauses) (take_all c.loop-item.item-index s.trail.items past) in
    let here = c.in_ok-marked_cube-2.ensures ∙ ap (λ m. filter_map (λ v. get_or m v None) s.shown.items) c.deref-2.ensures.value
    ∙ marks_cube s.variables c.loop-item.marks.items (picture_of s.arena.clauses (take c.loop-item.item-index s.trail.items)) s.shown.items c.requires.ground.shown.named c.loop-item.invariant.marks in
    c.in_ok-push-2.ensures.items ∙ ap (λ x. c.loop-item.cubes.items ++ x ∷ []) here
    ∙ ap (λ xs. xs ++ front_cube (picture_of s.arena.clauses (take c.loop-item.item-index s.trail.items)) s.shown.items ∷ []) c.loop-item.invariant.cubes
    ∙ ap (left_cubes s.shown.items s.base) whole

small_at : (c : goal.After-mark-arg-1) → let e : Item = get_or c.items-item-items.result.now c.loop-item.item-index (record { lit = pos 0; level = 0; kind = Assumed }) in (nat_abs e.lit < 2 ^ 31) × (nat_abs e.lit ≤ c.args.self.now.trail.variables)
small_at c =
    let s = c.args.self.now in
    let items = s.trail.items in
    let i : ℕ = c.loop-item.item-index in
    let none : Item = record { lit = pos 0; level = 0; kind = Assumed } in
    let same = c.items-item-items.ensures.items in
    let inside = subst (λ xs. i < length xs) same c.loop-item-test.true in (
      subst (λ xs. nat_abs (get_or xs i none).lit < 2 ^ 31) (sym same) (item_small s.trail.variables items s.trail.level i none c.items-item-items.ensures.trail inside),
      subst (λ xs. nat_abs (get_or xs i none).lit ≤ s.trail.variables) (sym same) (item_low s.trail.variables items s.trail.level i none c.items-item-items.ensures.trail inside),
    )

pub overflow_sub-item : goal.overflow_sub-item
overflow_sub-item c =
    let e : Item = get_or c.items-item-items.result.now c.loop-item.item-index (record { lit = pos 0; level = 0; kind = Assumed }) in
    negation_fits e.lit (small_at c).0

pub mark-requires : goal.mark-requires
mark-requires c =
    let e : Item = get_or c.items-item-items.result.now c.loop-item.item-index (record { lit = pos 0; level = 0; kind = Assumed }) in
    let both = small_at c in
    let low = both.1 in
    let wide = c.requires.ground.trail in
    let long = c.loop-item.invariant.long in
    let at : c.unsigned_abs.result ≡ nat_abs e.lit = c.unsigned_abs.ensures.value ∙ nat_abs-bits e.lit (literal_fits e.lit both.0) in
    omega arith
