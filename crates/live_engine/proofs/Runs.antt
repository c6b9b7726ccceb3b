-- One move after another.
use Rattle.std.proofs.Common.{◌≡◌, ℕ, ◌≤◌, ◌<◌, Bool, cond, List, ◌++◌, length, Some, None, ap, refl, sym, subst, ◌∙◌, append_assoc, arith, ℤ, Vec, Global}
use Rattle.implicant_shrink.specs.Levels.{marked}
use Rattle.live_engine.specs.declared.search.Search.{Search}
use Rattle.live_engine.specs.declared.search.Leaf.{Leaf}
use Rattle.live_engine.specs.declared.search.Step.{Step}
use Rattle.live_engine.specs.declared.search.Step.TheVariants.{Goes, Last}
use Rattle.live_engine.specs.Values.{hidden_literals}
use Rattle.live_engine.specs.Searching.{search_formula, model_of, open_weight, IsSameJob, KeepsLeaves}
use Rattle.live_engine.specs.Steps.{counted, HasFound, FindsIn, FindsAllSet, ComesTo}
use Rattle.live_engine.proofs.Grounds.{formula_same}
use Rattle.live_engine.proofs.Moves.{same_job}

pub job_then : (a b c : Search) → a.arena.base ≤ length a.arena.clauses → IsSameJob a b → IsSameJob b c → IsSameJob a c
job_then a b c based first second = record {
  variables = second.variables ∙ first.variables;
  formula = second.formula ∙ first.formula;
  more = first.more ++ second.more;
  clauses = second.clauses ∙ ap (λ xs. xs ++ second.more) first.clauses ∙ append_assoc a.arena.clauses first.more second.more;
  shown = second.shown ∙ first.shown;
  prefix = second.prefix ∙ first.prefix;
  base = second.base ∙ first.base;
  sent = second.sent ∙ first.sent;
}

pub keeps_then : (a b c : Search) → a.arena.base ≤ length a.arena.clauses → KeepsLeaves a b → KeepsLeaves b c → KeepsLeaves a c
keeps_then a b c based first second = record {
  job = job_then a b c based first.job second.job;
  found = second.found ∙ first.found;
  leaves = second.leaves ∙ first.leaves;
  values = second.values ∙ first.values;
  has_model = second.has_model ∙ first.has_model;
  weight = (let one = first.weight in let two = second.weight in let goal_is : open_weight c ≤ open_weight a = omega arith in goal_is);
}

-- what was told of a model stays
model_same : (a b : Search) → KeepsLeaves a b → model_of b ≡ model_of a
model_same a b keeps =
    ap (λ h. cond h (Some (hidden_literals b.variables b.shown.items (marked b.values.items))) None) keeps.has_model
    ∙ ap (λ n. cond a.has_model (Some (hidden_literals n b.shown.items (marked b.values.items))) None) keeps.job.variables
    ∙ ap (λ (v : Vec ℕ Global). cond a.has_model (Some (hidden_literals a.variables v.items (marked b.values.items))) None) keeps.job.shown
    ∙ ap (λ (v : Vec Bool Global). cond a.has_model (Some (hidden_literals a.variables a.shown.items (marked v.items))) None) keeps.values

finds_then : (a b c : Search) (leaf : Leaf) → a.arena.base ≤ length a.arena.clauses → KeepsLeaves a b → FindsIn b c leaf → FindsIn a c leaf
finds_then a b c leaf based keeps found =
    subst (λ f. HasFound f a.variables a.shown.items leaf a.found.items c.found.items (model_of a) (model_of c)) (formula_same a b based keeps.job)
    (subst (λ n. HasFound (search_formula b) n a.shown.items leaf a.found.items c.found.items (model_of a) (model_of c)) keeps.job.variables
    (subst (λ (v : Vec ℕ Global). HasFound (search_formula b) b.variables v.items leaf a.found.items c.found.items (model_of a) (model_of c)) keeps.job.shown
    (subst (λ (v : Vec (List ℤ) Global). HasFound (search_formula b) b.variables b.shown.items leaf v.items c.found.items (model_of a) (model_of c)) keeps.found
    (subst (λ m. HasFound (search_formula b) b.variables b.shown.items leaf b.found.items c.found.items m (model_of c)) (model_same a b keeps) found))))

pub comes_then : (a b c : Search) (step : Step) → a.arena.base ≤ length a.arena.clauses → KeepsLeaves a b → ComesTo b c step → ComesTo a c step
comes_then a b c (Goes leaf) based keeps comes = record {
  searching = comes.searching;
  job = job_then a b c based keeps.job comes.job;
  found = finds_then a b c leaf based keeps comes.found;
  leaves = comes.leaves ∙ ap counted keeps.leaves;
  less = (let one = keeps.weight in let two = comes.less in let goal_is : open_weight c < open_weight a = omega arith in goal_is);
}
comes_then a b c (Last leaf) based keeps comes = record {
  closed = comes.closed;
  job = job_then a b c based keeps.job comes.job;
  found = finds_then a b c leaf based keeps comes.found;
  leaves = comes.leaves ∙ ap counted keeps.leaves;
}

-- the walk for a free variable leaves the job as it was
pub full_keeps : (a b : Search) → FindsAllSet a b → KeepsLeaves a b
full_keeps a b full = subst (KeepsLeaves a) (sym full.same) (record {
  job = same_job a (record a { order = b.order }) refl refl refl refl refl refl;
  found = refl;
  leaves = refl;
  values = refl;
  has_model = refl;
  weight = (let goal_is : open_weight a ≤ open_weight a = omega arith in goal_is);
})
