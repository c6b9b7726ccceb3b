use Rattle.std.proofs.Common.{◌≡◌, ℕ, ◌+◌, ◌<◌, Bool, List, get_or, drop, take, length, refl, sym, ap, ◌∙◌, arith, rules}
use Rattle.std.proofs.lemmas.Bool.{le-leb, lt-leb}
use Rattle.std.proofs.lemmas.List.{get_or-drop}
use Rattle.std.proofs.lemmas.List.Filters.{FiltersInPlace, FiltersInPlace-more_no, FiltersInPlace-more_set}
use Rattle.search_region.proofs.Back.{filter_all}
use Rattle.chrono_trail.specs.declared.item.Item.{Item}
use Rattle.chrono_trail.specs.Items.{is_upto}
use Rattle.chrono_trail.proofs.Kept.{stay_more, stay_past, stay_not, all_in_front}
use Rattle.chrono_trail.proofs.trail.keep_upto.Goals as goal
use Rattle.chrono_trail.proofs.trail.keep_upto.Goals.{then-item-level+then-at-seen, then-item-level+else-at-seen, else-item-level}

-- what is not looked at yet is as it was
read_same : {p : Item → Bool} {xs ys : List Item} {k i : ℕ} {x : Item} → FiltersInPlace p xs ys k i → x ≡ get_or ys i x → get_or xs i x ≡ x
read_same {xs = xs} {ys} {k} {i} {x} h is =
    let zero_more : i + 0 ≡ i = omega arith in
    let there : (zs : List Item) → get_or (drop i zs) 0 x ≡ get_or zs i x = λ zs. get_or-drop i zs 0 x ∙ ap (λ n. get_or zs n x) zero_more in
    sym (there xs) ∙ ap (λ zs. get_or zs 0 x) (sym h.rest) ∙ there ys ∙ sym is

pub loop-at-init : goal.loop-at-init
loop-at-init c =
    let items = c.args.items.now.items in
    let start : ℕ = c.args.start in
    let seen : ℕ = c.args.seen in
    record {
      filters = record {
        front = sym (filter_all (is_upto c.args.level) (take start items) c.requires.low);
        rest = refl;
        behind = omega arith;
        within = c.requires.within;
        long = refl;
      };
      marked = c.min-kept_seen.ensures ∙ all_in_front (is_upto c.args.level) start seen items c.requires.within c.requires.low;
      wide = refl;
    }

pub loop-at-preserved : goal.loop-at-preserved
loop-at-preserved c =
    let items = c.args.items.now.items in
    let item : Item = c.index-item.result.now in
    let at : ℕ = c.loop-at.at in
    let seen : ℕ = c.args.seen in
    let p = is_upto c.args.level in
    let filters = c.loop-at.invariant.filters in
    let inside : at < length c.loop-at.items.items = search rules in
    let long : length c.loop-at.items.items ≡ length items = filters.long in
    let same : get_or items at item ≡ item = read_same filters c.index-item.ensures in
    let marked = c.loop-at.invariant.marked in
    elim c.if-item-level.branch [
      | then-item-level+then-at-seen w ↦
          let stays = le-leb item.level c.args.level w.if-item-level.true in
          let more = stay_more p items seen at item (omega arith) (ap p same ∙ stays) w.if-at-seen.true in
          rw (w.items-is, w.kept-is, w.kept_seen-is) (record {
            filters = FiltersInPlace-more_set filters inside stays c.index-item.ensures;
            marked = omega arith;
            wide = c.loop-at.invariant.wide;
          })
      | then-item-level+else-at-seen w ↦
          let stays = le-leb item.level c.args.level w.if-item-level.true in
          let past = stay_past p items seen at w.if-at-seen.false in
          rw (w.items-is, w.kept-is, w.kept_seen-is) (record {
            filters = FiltersInPlace-more_set filters inside stays c.index-item.ensures;
            marked = omega arith;
            wide = c.loop-at.invariant.wide;
          })
      | else-item-level w ↦
          let leaves = lt-leb item.level c.args.level w.if-item-level.false in
          let none = stay_not p items seen at item (omega arith) (ap p same ∙ leaves) in
          rw (w.items-is, w.kept-is, w.kept_seen-is) (record {
            filters = FiltersInPlace-more_no filters inside leaves c.index-item.ensures;
            marked = omega arith;
            wide = c.loop-at.invariant.wide;
          })
    ]
