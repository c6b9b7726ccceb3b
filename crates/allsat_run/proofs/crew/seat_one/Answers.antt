use Rattle.std.proofs.Common.{false, refl, rules}
use Rattle.region_ledger.specs.Hands.{HandView, subject_of, IsFreeHand}
use Rattle.allsat_run.specs.declared.crew.Seated.{Seated}
use Rattle.allsat_run.specs.Crews.{ToolsView, IsTool, IsSeated}
use Rattle.allsat_run.proofs.Crews.{last_of_all, rest_of_all, all_with}
use Rattle.allsat_run.proofs.crew.seat_one.Goals as goal

pub returns-clause-ready : goal.returns-clause-ready
returns-clause-ready c =
    let l = c.args.ledger.now in
    let m : Seated ToolsView HandView = record { tools = c.take_last.result; pass = c.take_last-2.result; was_refused = false } in
    let one = last_of_all (IsTool (subject_of l)) c.args.tools.now.items c.take_last.new.list.items c.take_last.result c.take_last.ensures.last c.requires.tools in
    let pass = last_of_all (IsFreeHand l) c.args.passes.now.items c.take_last-2.new.list.items c.take_last-2.result c.take_last-2.ensures.last c.requires.free in
    let ready : IsSeated l m = record { pass = record { hand = pass.hand; number = refl; held = pass.free }; same = one.same; idle = one.idle } in
    all_with (IsSeated l) c.args.members.now.items c.push.new.self.items m (search (rules, c.push.ensures.items)) c.requires.ready ready

pub returns-clause-tools : goal.returns-clause-tools
returns-clause-tools c = rest_of_all (IsTool (subject_of c.args.ledger.now)) c.args.tools.now.items c.take_last.new.list.items c.take_last.result c.take_last.ensures.last c.requires.tools

pub returns-clause-free : goal.returns-clause-free
returns-clause-free c = rest_of_all (IsFreeHand c.args.ledger.now) c.args.passes.now.items c.take_last-2.new.list.items c.take_last-2.result c.take_last-2.ensures.last c.requires.free
