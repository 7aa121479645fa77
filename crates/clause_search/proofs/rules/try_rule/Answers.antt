use Rattle.std.proofs.Common.{refl}
use Rattle.numbered_terms.proofs.Results.{on_ok}
use Rattle.clause_search.proofs.Kept.{right_later, rested_later, closed_later, rewritten_later, combined_later}
use Rattle.clause_search.proofs.rules.try_rule.Goals as goal

pub returns-in-Skolem-clause-tables : goal.returns-in-Skolem-clause-tables
returns-in-Skolem-clause-tables c = right_later c.skolem.result c.args.store.now c.skolem.new.store c.skolem.ensures.terms c.args.tables.now c.requires.tables

pub returns-in-Condition-clause-tables : goal.returns-in-Condition-clause-tables
returns-in-Condition-clause-tables c = right_later c.condition.result c.args.store.now c.condition.new.store c.condition.ensures.grows.terms c.args.tables.now c.requires.tables

pub returns-in-Differ-clause-tables : goal.returns-in-Differ-clause-tables
returns-in-Differ-clause-tables c = right_later c.differ.result c.args.store.now c.differ.new.store c.differ.ensures.grows.terms c.args.tables.now c.requires.tables

pub returns-in-Flatten-clause-tables : goal.returns-in-Flatten-clause-tables
returns-in-Flatten-clause-tables c = right_later c.flatten.result c.args.store.now c.flatten.new.store c.flatten.ensures.grows.terms c.args.tables.now c.requires.tables

pub returns-in-Split-clause-tables : goal.returns-in-Split-clause-tables
returns-in-Split-clause-tables c = right_later c.split.result c.args.store.now c.split.new.store c.split.ensures.grows.terms c.args.tables.now c.requires.tables

pub returns-in-Unfold-clause-tables : goal.returns-in-Unfold-clause-tables
returns-in-Unfold-clause-tables c = right_later c.unfold.result c.args.store.now c.unfold.new.store c.unfold.ensures.grows.terms c.args.tables.now c.requires.tables

pub returns-in-Back-clause-tables : goal.returns-in-Back-clause-tables
returns-in-Back-clause-tables c = right_later c.back.result c.args.store.now c.back.new.store c.back.ensures.grows.terms c.args.tables.now c.requires.tables

pub returns-in-Combine-clause-tables : goal.returns-in-Combine-clause-tables
returns-in-Combine-clause-tables c = combined_later c.combine.result c.args.store.now c.combine.new.store c.combine.ensures.grows.terms c.args.tables.now c.requires.tables _ refl refl c.combine.ensures.tried

pub returns-in-Trichotomy-clause-tables : goal.returns-in-Trichotomy-clause-tables
returns-in-Trichotomy-clause-tables c = rested_later c.trichotomy.result c.args.store.now c.trichotomy.new.store c.trichotomy.ensures.grows.terms c.args.tables.now c.requires.tables _ refl refl refl

pub returns-in-Past-clause-tables : goal.returns-in-Past-clause-tables
returns-in-Past-clause-tables c = right_later c.past.result c.args.store.now c.past.new.store c.past.ensures.grows.terms c.args.tables.now c.requires.tables

pub returns-in-Close-clause-tables : goal.returns-in-Close-clause-tables
returns-in-Close-clause-tables c = closed_later c.close.result c.args.store.now c.close.new.store c.close.ensures.grows.terms c.args.tables.now c.requires.tables _ refl refl c.close.ensures.apart

pub returns-in-Rewrite-clause-tables : goal.returns-in-Rewrite-clause-tables
returns-in-Rewrite-clause-tables c = rewritten_later c.rewrite.result c.args.store.now c.rewrite.new.store c.rewrite.ensures.grows.terms c.args.tables.now c.requires.tables _ refl refl c.rewrite.ensures.counted

pub returns-in-Instantiate-clause-tables : goal.returns-in-Instantiate-clause-tables
returns-in-Instantiate-clause-tables c = rested_later c.instantiate.result c.args.store.now c.instantiate.new.store c.instantiate.ensures.grows.terms c.args.tables.now c.requires.tables _ refl refl refl

pub returns-in-Condition-clause-terms : goal.returns-in-Condition-clause-terms
returns-in-Condition-clause-terms c = c.condition.ensures.grows.terms

pub returns-in-Condition-clause-grows : goal.returns-in-Condition-clause-grows
returns-in-Condition-clause-grows c = on_ok c.condition.result c.condition.ensures.grows

pub returns-in-Differ-clause-terms : goal.returns-in-Differ-clause-terms
returns-in-Differ-clause-terms c = c.differ.ensures.grows.terms

pub returns-in-Differ-clause-grows : goal.returns-in-Differ-clause-grows
returns-in-Differ-clause-grows c = on_ok c.differ.result c.differ.ensures.grows

pub returns-in-Close-clause-terms : goal.returns-in-Close-clause-terms
returns-in-Close-clause-terms c = c.close.ensures.grows.terms

pub returns-in-Close-clause-grows : goal.returns-in-Close-clause-grows
returns-in-Close-clause-grows c = on_ok c.close.result c.close.ensures.grows

pub returns-in-Flatten-clause-terms : goal.returns-in-Flatten-clause-terms
returns-in-Flatten-clause-terms c = c.flatten.ensures.grows.terms

pub returns-in-Flatten-clause-grows : goal.returns-in-Flatten-clause-grows
returns-in-Flatten-clause-grows c = on_ok c.flatten.result c.flatten.ensures.grows

pub returns-in-Split-clause-terms : goal.returns-in-Split-clause-terms
returns-in-Split-clause-terms c = c.split.ensures.grows.terms

pub returns-in-Split-clause-grows : goal.returns-in-Split-clause-grows
returns-in-Split-clause-grows c = on_ok c.split.result c.split.ensures.grows

pub returns-in-Unfold-clause-terms : goal.returns-in-Unfold-clause-terms
returns-in-Unfold-clause-terms c = c.unfold.ensures.grows.terms

pub returns-in-Unfold-clause-grows : goal.returns-in-Unfold-clause-grows
returns-in-Unfold-clause-grows c = on_ok c.unfold.result c.unfold.ensures.grows

pub returns-in-Back-clause-terms : goal.returns-in-Back-clause-terms
returns-in-Back-clause-terms c = c.back.ensures.grows.terms

pub returns-in-Back-clause-grows : goal.returns-in-Back-clause-grows
returns-in-Back-clause-grows c = on_ok c.back.result c.back.ensures.grows

pub returns-in-Combine-clause-terms : goal.returns-in-Combine-clause-terms
returns-in-Combine-clause-terms c = c.combine.ensures.grows.terms

pub returns-in-Combine-clause-grows : goal.returns-in-Combine-clause-grows
returns-in-Combine-clause-grows c = on_ok c.combine.result c.combine.ensures.grows

pub returns-in-Trichotomy-clause-terms : goal.returns-in-Trichotomy-clause-terms
returns-in-Trichotomy-clause-terms c = c.trichotomy.ensures.grows.terms

pub returns-in-Trichotomy-clause-grows : goal.returns-in-Trichotomy-clause-grows
returns-in-Trichotomy-clause-grows c = on_ok c.trichotomy.result c.trichotomy.ensures.grows

pub returns-in-Past-clause-terms : goal.returns-in-Past-clause-terms
returns-in-Past-clause-terms c = c.past.ensures.grows.terms

pub returns-in-Past-clause-grows : goal.returns-in-Past-clause-grows
returns-in-Past-clause-grows c = on_ok c.past.result c.past.ensures.grows

pub returns-in-Rewrite-clause-terms : goal.returns-in-Rewrite-clause-terms
returns-in-Rewrite-clause-terms c = c.rewrite.ensures.grows.terms

pub returns-in-Rewrite-clause-grows : goal.returns-in-Rewrite-clause-grows
returns-in-Rewrite-clause-grows c = on_ok c.rewrite.result c.rewrite.ensures.grows

pub returns-in-Instantiate-clause-terms : goal.returns-in-Instantiate-clause-terms
returns-in-Instantiate-clause-terms c = c.instantiate.ensures.grows.terms

pub returns-in-Instantiate-clause-grows : goal.returns-in-Instantiate-clause-grows
returns-in-Instantiate-clause-grows c = on_ok c.instantiate.result c.instantiate.ensures.grows
