-- The twelve rules, their words, and the rule of each node.
use Rattle.std.specs.Prelude.{ℕ, List, [], ◌∷◌, codes}
use Rattle.proof_core.specs.Proof.{Step, by_split, by_instantiate, by_skolem, by_replace, by_unfold, by_back, by_differ, by_combine, by_tighten, Proof, proof, End, by_close, by_cases, by_condition, by_past, by_trichotomy}

pub data Rule : Type 0 where
  close : Rule
  split : Rule
  instantiate : Rule
  skolem : Rule
  replace : Rule
  «unfold» : Rule
  back : Rule
  past : Rule
  differ : Rule
  combine : Rule
  tighten : Rule
  trichotomy : Rule

-- its word
abbrev pub rule_word : Rule → List ℕ
rule_word close = codes "close"
rule_word split = codes "split"
rule_word instantiate = codes "instantiate"
rule_word skolem = codes "skolem"
rule_word replace = codes "replace"
rule_word «unfold» = codes "unfold"
rule_word back = codes "back"
rule_word past = codes "past"
rule_word differ = codes "differ"
rule_word combine = codes "combine"
rule_word tighten = codes "tighten"
rule_word trichotomy = codes "trichotomy"

abbrev pub step_rule : Step → Rule
step_rule (by_split f) = split
step_rule (by_instantiate f ts) = instantiate
step_rule (by_skolem f) = skolem
step_rule (by_replace f g t) = replace
step_rule (by_unfold f t) = «unfold»
step_rule (by_back f t) = back
step_rule (by_differ f) = differ
step_rule (by_combine f p g q) = combine
step_rule (by_tighten f) = tighten

abbrev pub end_rule : End → Rule
end_rule (by_close f g) = close
end_rule (by_cases f p ps) = split
end_rule (by_condition f t p q) = split
end_rule (by_past t p q r) = past
end_rule (by_trichotomy t p q r) = trichotomy

-- the rule of the first node
abbrev pub first_rule : Proof → Rule
first_rule (proof [] e) = end_rule e
first_rule (proof (s ∷ ss) e) = step_rule s
