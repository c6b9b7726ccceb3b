use Rattle.std.proofs.Common.{◌≡◌, ◌<◌, ◌≤◌, ◌^◌, ◌∷◌, ℤ, pos, neg_ℤ, nat_abs, Some, None, filter_map, get_or, set, sym, ap, subst, ◌∙◌, IfOk, arith}
use Rattle.std.proofs.lemmas.List.{get_or_default}
use Rattle.sat_terms.proofs.Machine.{nat_abs-bits}
use Rattle.search_region.specs.Trail as picture
use Rattle.search_job.specs.Same.{other_cube}
use Rattle.chrono_trail.specs.declared.item.Kind.TheVariants.{Assumed}
use Rattle.chrono_trail.specs.declared.item.Item.{Item}
use Rattle.chrono_trail.specs.Pictures.{pictured}
use Rattle.live_engine.specs.Gives.{pictured_before}
use Rattle.live_engine.specs.Marks.{AreMarkedBy}
use Rattle.live_engine.proofs.Literals.{literal_fits, negated}
use Rattle.live_engine.proofs.Literals.{item_small, item_low}
use Rattle.live_engine.proofs.Marking.{marks_cube, side_marked}
use Rattle.live_engine.proofs.search.Search.other_side.Goals as goal

pub mark-requires : goal.mark-requires
mark-requires c =
    let s = c.args.self.now in
    let none : Item = record { lit = pos 0; level = 0; kind = Assumed } in
    let e : Item = get_or c.items.result.now c.args.place none in
    let small : nat_abs e.lit < 2 ^ 31 = subst (λ xs. nat_abs (get_or xs c.args.place none).lit < 2 ^ 31) (sym c.items.ensures.items) (item_small s.trail.variables s.trail.items s.trail.level c.args.place none c.items.ensures.trail c.requires.inside) in
    let low : nat_abs e.lit ≤ s.trail.variables = subst (λ xs. nat_abs (get_or xs c.args.place none).lit ≤ s.trail.variables) (sym c.items.ensures.items) (item_low s.trail.variables s.trail.items s.trail.level c.args.place none c.items.ensures.trail c.requires.inside) in
    let at : c.unsigned_abs.result ≡ nat_abs e.lit = c.unsigned_abs.ensures.value ∙ nat_abs-bits e.lit (literal_fits e.lit small) in
    let wide = c.requires.ground.trail in
    let full = c.in_ok-marks.ensures.long in
    omega arith

pub marked_cube-requires-clause-marks : goal.marked_cube-requires-clause-marks
marked_cube-requires-clause-marks c =
    let s = c.args.self.now in
    let none : Item = record { lit = pos 0; level = 0; kind = Assumed } in
    let e : Item = get_or c.items.result.now c.args.place none in
    let small : nat_abs e.lit < 2 ^ 31 = subst (λ xs. nat_abs (get_or xs c.args.place none).lit < 2 ^ 31) (sym c.items.ensures.items) (item_small s.trail.variables s.trail.items s.trail.level c.args.place none c.items.ensures.trail c.requires.inside) in
    let low : nat_abs e.lit ≤ s.trail.variables = subst (λ xs. nat_abs (get_or xs c.args.place none).lit ≤ s.trail.variables) (sym c.items.ensures.items) (item_low s.trail.variables s.trail.items s.trail.level c.args.place none c.items.ensures.trail c.requires.inside) in
    let at : c.unsigned_abs.result ≡ nat_abs e.lit = c.unsigned_abs.ensures.value ∙ nat_abs-bits e.lit (literal_fits e.lit small) in
    let wide = c.requires.ground.trail in
    let full = c.in_ok-marks.ensures.long in
    let marks = c.in_ok-marks.marks.items in
    let d = pictured s.arena.clauses e in
    let side = picture.flip (picture.depth (pictured_before s c.args.place)) d ∷ pictured_before s c.args.place in
    let is : c.deref.result.now ≡ set marks c.unsigned_abs.result (Some (neg_ℤ e.lit)) =
    c.deref.ensures.value ∙ c.mark.ensures ∙ ap (λ (z : ℤ). set marks c.unsigned_abs.result (Some z)) (negated e.lit small) in
    let told = side_marked s.variables marks (pictured_before s c.args.place) d c.unsigned_abs.result at (omega arith) c.in_ok-marks.ensures.marks in
    record { trail = side; told = subst (λ m. AreMarkedBy s.variables m side) (sym is) told }

pub returns : goal.returns
returns c =
    let s = c.args.self.now in
    let none : Item = record { lit = pos 0; level = 0; kind = Assumed } in
    let e : Item = get_or c.items.result.now c.args.place none in
    let small : nat_abs e.lit < 2 ^ 31 = subst (λ xs. nat_abs (get_or xs c.args.place none).lit < 2 ^ 31) (sym c.items.ensures.items) (item_small s.trail.variables s.trail.items s.trail.level c.args.place none c.items.ensures.trail c.requires.inside) in
    let low : nat_abs e.lit ≤ s.trail.variables = subst (λ xs. nat_abs (get_or xs c.args.place none).lit ≤ s.trail.variables) (sym c.items.ensures.items) (item_low s.trail.variables s.trail.items s.trail.level c.args.place none c.items.ensures.trail c.requires.inside) in
    let at : c.unsigned_abs.result ≡ nat_abs e.lit = c.unsigned_abs.ensures.value ∙ nat_abs-bits e.lit (literal_fits e.lit small) in
    let wide = c.requires.ground.trail in
    let full = c.in_ok-marks.ensures.long in
    let marks = c.in_ok-marks.marks.items in
    let d = pictured s.arena.clauses e in
    let side = picture.flip (picture.depth (pictured_before s c.args.place)) d ∷ pictured_before s c.args.place in
    let is : c.deref.result.now ≡ set marks c.unsigned_abs.result (Some (neg_ℤ e.lit)) =
    c.deref.ensures.value ∙ c.mark.ensures ∙ ap (λ (z : ℤ). set marks c.unsigned_abs.result (Some z)) (negated e.lit small) in
    let told = side_marked s.variables marks (pictured_before s c.args.place) d c.unsigned_abs.result at (omega arith) c.in_ok-marks.ensures.marks in
    λ other. subst (λ x. IfOk c.marked_cube.result (λ cube. cube ≡ x))
    (ap (λ m. filter_map (λ v. get_or m v None) s.shown.items) is
    ∙ marks_cube s.variables (set marks c.unsigned_abs.result (Some (neg_ℤ e.lit))) side s.shown.items c.requires.ground.shown.named told
    ∙ ap (λ x. other_cube (pictured s.arena.clauses x) (pictured_before s c.args.place) s.shown.items)
    (ap (λ xs. get_or xs c.args.place none) c.items.ensures.items ∙ get_or_default s.trail.items c.args.place none other c.requires.inside))
    c.marked_cube.ensures
