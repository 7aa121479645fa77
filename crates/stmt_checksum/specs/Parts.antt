-- Of each canonical line the names in it that no variable hides, and the place of what may be asserted there. Line for line as a declaration's canonical lines.
use Rattle.std.specs.Prelude.{List, [], ◌∷◌, ◌++◌, map, Option, Some, None}
use Rattle.bv_base.specs.declared.place.Place.{Place}
use Rattle.bpl_ast.specs.Tree.{Groups}
use Rattle.bpl_ast.specs.Statement.{Invariant, Stmt, stmt, Action, assert, assume, havoc, assign, call, branches, loop, «break», «return», goto, Branches, branch, otherwise, no_branch, Stmts, no_stmts, next, Spec, Body, Signature, DeclBody, constant, function, axiom_of, variables, synonym, procedure, implementation}
use Rattle.bpl_scopes.specs.Scopes.{Text, texts_of, signature_names}
use Rattle.bpl_texts.specs.Uses.{guard_uses, invariant_uses, action_uses, groups_uses, spec_uses, signature_uses, contract_uses, local_texts}

pub record Part : Type 0 where
  pub uses : List Text
  -- of an assert, a call and an invariant
  pub place : Option Place

abbrev pub naming : List Text → Part
naming ns = record { uses = ns; place = None }

abbrev pub asserting : List Text → Place → Part
asserting ns p = record { uses = ns; place = Some p }

-- a brace, or `else`
abbrev pub bare : Part
bare = naming []

abbrev pub braced_parts : List Part → List Part
braced_parts ps = bare ∷ (ps ++ bare ∷ [])

abbrev pub invariant_part : List Text → Invariant → Part
invariant_part h i = asserting (invariant_uses h i) i.at

-- where variables hide these names
abbrev mutual
  pub statement_parts : List Text → Stmt → List Part
  statement_parts h (stmt ls p a) = action_parts h p a

  pub action_parts : List Text → Place → Action → List Part
  action_parts h p (assert x) = asserting (action_uses h (assert x)) p ∷ []
  action_parts h p (assume x) = naming (action_uses h (assume x)) ∷ []
  action_parts h p (havoc ns) = naming (action_uses h (havoc ns)) ∷ []
  action_parts h p (assign ts xs) = naming (action_uses h (assign ts xs)) ∷ []
  action_parts h p (call ns f xs) = asserting (action_uses h (call ns f xs)) p ∷ []
  action_parts h p (branches bs) = chain_parts h bs
  action_parts h p (loop g is ss) = naming (guard_uses h g) ∷ (map (invariant_part h) is ++ braced_parts (statements_parts h ss))
  action_parts h p («break» l) = bare ∷ []
  action_parts h p «return» = bare ∷ []
  action_parts h p (goto ns) = bare ∷ []

  pub chain_parts : List Text → Branches → List Part
  chain_parts h (branch p g ss bs) = naming (guard_uses h g) ∷ (braced_parts (statements_parts h ss) ++ others_parts h bs)
  chain_parts h (otherwise ss) = []
  chain_parts h no_branch = []

  -- `else` and the `if` behind it are two lines
  pub others_parts : List Text → Branches → List Part
  others_parts h (branch p g ss bs) = bare ∷ naming (guard_uses h g) ∷ (braced_parts (statements_parts h ss) ++ others_parts h bs)
  others_parts h (otherwise ss) = bare ∷ braced_parts (statements_parts h ss)
  others_parts h no_branch = []

  pub statements_parts : List Text → Stmts → List Part
  statements_parts h no_stmts = []
  statements_parts h (next s ss) = statement_parts h s ++ statements_parts h ss

abbrev pub spec_part : List Text → Spec → Part
spec_part h s = naming (spec_uses h s)

abbrev pub local_part : List Text → Groups → Part
local_part h gs = naming (groups_uses h gs)

-- in a body locals hide names too
abbrev pub hidden_in : Signature → Body → List Text
hidden_in g b = local_texts b ++ texts_of (signature_names g)

abbrev pub body_parts : Signature → Body → List Part
body_parts g b = bare ∷ (map (local_part (hidden_in g b)) b.locals ++ (statements_parts (hidden_in g b) b.stmts ++ bare ∷ []))

abbrev pub optional_body_parts : Signature → Option Body → List Part
optional_body_parts g None = []
optional_body_parts g (Some b) = body_parts g b

abbrev pub head_parts : DeclBody → List Part
head_parts (procedure n ps g ss b) = naming (signature_uses g) ∷ map (spec_part (texts_of (signature_names g))) ss
head_parts (constant u ns t) = naming (contract_uses (constant u ns t)) ∷ []
head_parts (function n ps ins t x) = naming (contract_uses (function n ps ins t x)) ∷ []
head_parts (axiom_of x) = naming (contract_uses (axiom_of x)) ∷ []
head_parts (variables gs) = naming (contract_uses (variables gs)) ∷ []
head_parts (synonym n t) = naming (contract_uses (synonym n t)) ∷ []
head_parts (implementation n ps g b) = naming (contract_uses (implementation n ps g b)) ∷ []

abbrev pub last_parts : DeclBody → List Part
last_parts (procedure n ps g ss b) = optional_body_parts g b
last_parts (implementation n ps g b) = body_parts g b
last_parts (constant u ns t) = []
last_parts (function n ps ins t x) = []
last_parts (axiom_of x) = []
last_parts (variables gs) = []
last_parts (synonym n t) = []

abbrev pub parts : DeclBody → List Part
parts d = head_parts d ++ last_parts d
