-- The free variables of a term and the definitions that it calls, a term with other variables, and numbers in the order of their first occurrences.
use Rattle.std.specs.Prelude.{ℕ, nat_eq, List, [], ◌∷◌, ◌++◌, fold, unwrap_or, if◌then◌else◌}
use Rattle.std.specs.List.{list_any, position_from}
use Rattle.logic_terms.specs.Tree.{Tree, num, truth, free, bound, linear, mul, read, write, choose, call, negation, all, some, equal, at_most, for_all, exists, Trees, no_trees, tree, Parts, no_parts, part, Patterns, no_patterns, pattern}
use Rattle.logic_core.specs.Renamed.{both_renamed, each_both_renamed, parts_both_renamed, patterns_both_renamed}

-- what variables and definitions give, each as often as it stands there, in the order of the text: a definition before its arguments, and triggers before a binder's body
module _ (of_def of_var : ℕ → List ℕ) where
  abbrev mutual
    pub mentions : Tree → List ℕ
    mentions (num n) = []
    mentions (truth x) = []
    mentions (free v) = of_var v
    mentions (bound v) = []
    mentions (linear ps c) = parts_mention ps
    mentions (mul a b) = mentions a ++ mentions b
    mentions (read a b) = mentions a ++ mentions b
    mentions (write a b c) = mentions a ++ (mentions b ++ mentions c)
    mentions (choose a b c) = mentions a ++ (mentions b ++ mentions c)
    mentions (call f ts) = of_def f ++ each_mentions ts
    mentions (negation a) = mentions a
    mentions (all ts) = each_mentions ts
    mentions (some ts) = each_mentions ts
    mentions (equal a b) = mentions a ++ mentions b
    mentions (at_most a b) = mentions a ++ mentions b
    mentions (for_all ss ps a) = patterns_mention ps ++ mentions a
    mentions (exists ss ps a) = patterns_mention ps ++ mentions a

    pub each_mentions : Trees → List ℕ
    each_mentions no_trees = []
    each_mentions (tree t ts) = mentions t ++ each_mentions ts

    pub parts_mention : Parts → List ℕ
    parts_mention no_parts = []
    parts_mention (part k t ps) = mentions t ++ parts_mention ps

    pub patterns_mention : Patterns → List ℕ
    patterns_mention no_patterns = []
    patterns_mention (pattern ts ps) = each_mentions ts ++ patterns_mention ps

abbrev pub none_of : ℕ → List ℕ
none_of n = []

abbrev pub itself : ℕ → List ℕ
itself n = n ∷ []

-- the variables
abbrev pub variables : Tree → List ℕ
variables t = mentions none_of itself t

abbrev pub variables_of_each : Trees → List ℕ
variables_of_each ts = each_mentions none_of itself ts

abbrev pub variables_of_parts : Parts → List ℕ
variables_of_parts ps = parts_mention none_of itself ps

abbrev pub variables_of_patterns : Patterns → List ℕ
variables_of_patterns ps = patterns_mention none_of itself ps

-- the definitions
abbrev pub calls : Tree → List ℕ
calls t = mentions itself none_of t

abbrev pub calls_of_each : Trees → List ℕ
calls_of_each ts = each_mentions itself none_of ts

abbrev pub calls_of_parts : Parts → List ℕ
calls_of_parts ps = parts_mention itself none_of ps

abbrev pub calls_of_patterns : Patterns → List ℕ
calls_of_patterns ps = patterns_mention itself none_of ps

-- new numbers for the variables alone
abbrev pub renamed : (ℕ → ℕ) → Tree → Tree
renamed new t = both_renamed (λ f. f) new t

abbrev pub each_renamed : (ℕ → ℕ) → Trees → Trees
each_renamed new ts = each_both_renamed (λ f. f) new ts

abbrev pub parts_renamed : (ℕ → ℕ) → Parts → Parts
parts_renamed new ps = parts_both_renamed (λ f. f) new ps

abbrev pub patterns_renamed : (ℕ → ℕ) → Patterns → Patterns
patterns_renamed new ps = patterns_both_renamed (λ f. f) new ps

-- a number that isn't there yet joins the end
abbrev pub joined : List ℕ → ℕ → List ℕ
joined ns n = if list_any (nat_eq n) ns then ns else ns ++ n ∷ []

-- the numbers, each once, in the order of their first occurrences, after those that are there already
abbrev pub first_occurrences : List ℕ → List ℕ → List ℕ
first_occurrences before ns = fold joined before ns

-- where the number stands in the list
abbrev pub place_in : List ℕ → ℕ → ℕ
place_in order n = unwrap_or (position_from (nat_eq n) 0 order) 0
