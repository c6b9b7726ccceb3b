use Rattle.std.proofs.Common.{ap, rules, arith}
use Rattle.live_engine.specs.Engines.{EngineView}
use Rattle.allsat_run.specs.Crews.{ToolsView, IsTool}
use Rattle.allsat_run.proofs.Crews.{all_with}
use Rattle.allsat_run.proofs.crew.make_tools.Goals as goal

pub loop-worker-preserved : goal.loop-worker-preserved
loop-worker-preserved c =
    let was = c.loop-worker.invariant in
    let s = c.args.subject.now in
    let one : ToolsView = record { engine = c.in_ok-engine.engine; bench = c.take_last-bench.result; post = c.take_last-post.result } in
    let tool : IsTool s one = record { same = ap (λ (e : EngineView). e.subject) c.in_ok-engine.ensures; idle = ap (λ (e : EngineView). e.job) c.in_ok-engine.ensures } in
    record {
      benches = omega (arith, c.take_last-bench.ensures.fewer, was.benches);
      posts = omega (arith, c.take_last-post.ensures.fewer, was.posts);
      count = search (rules, c.push.ensures.items, was.count);
      tools = all_with (IsTool s) c.loop-worker.all.items c.push.new.self.items one (search (rules, c.push.ensures.items)) was.tools tool;
    }
