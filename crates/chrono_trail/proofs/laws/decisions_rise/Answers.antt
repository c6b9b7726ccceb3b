use Rattle.std.proofs.Common.{◌≡◌, ◌-◌, ap, ◌∙◌, arith}
use Rattle.std.specs.List.{range_with_len}
use Rattle.chrono_trail.specs.Items.{depth_from}
use Rattle.chrono_trail.proofs.Levels.{levels_rise}
use Rattle.chrono_trail.proofs.laws.decisions_rise.Goals as goal

pub returns : goal.returns
returns _ n items level trail =
    let count : depth_from 0 items - 0 ≡ level = (let current = trail.current in omega arith) in
    levels_rise 0 items trail.stands ∙ ap (range_with_len 1) count
