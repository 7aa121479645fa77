-- The types of terms, under the types of variables and of definitions. `bound` are the types of the bound variables in reach, Bound(0)'s first.
use Rattle.std.specs.Prelude.{◌≡◌, ⊤, ℕ, Some, List, [], ◌∷◌, ◌++◌, reverse, take, slice_get}
use Rattle.logic_core.specs.Tree.{Tree, num, truth, free, bound, linear, mul, read, write, choose, call, negation, all, some, equal, at_most, for_all, exists, Trees, no_trees, tree, Parts, no_parts, part, Patterns, no_patterns, pattern}
use Rattle.logic_core.specs.Def.{Def}
use Rattle.bpl_sorts.specs.Types.{Ty, integers, truths, maps, kind_of, kinds_of, Head}

module _ (vars : List Ty) (heads : List Head) where
  abbrev mutual
    pub HasType : List Ty → Tree → Ty → Type 0
    HasType b (num n) t = t ≡ integers
    HasType b (truth x) t = t ≡ truths
    HasType b (free v) t = slice_get vars v ≡ Some t
    HasType b (bound v) t = slice_get b v ≡ Some t
    HasType b (linear ps c) t = AreIntegers b ps × (t ≡ integers)
    HasType b (mul x y) t = HasType b x integers × HasType b y integers × (t ≡ integers)
    HasType b (read m i) t = HasType b m (maps t) × HasType b i integers
    HasType b (write m i x) t = (r : Ty) × HasType b m (maps r) × HasType b i integers × HasType b x r × (t ≡ maps r)
    HasType b (choose c x y) t = HasType b c truths × HasType b x t × HasType b y t
    HasType b (call f ts) t = (h : Head) × (slice_get heads f ≡ Some h) × HaveTypes b h.0 ts × (t ≡ h.1)
    HasType b (negation x) t = HasType b x truths × (t ≡ truths)
    HasType b (all ts) t = AreTruths b ts × (t ≡ truths)
    HasType b (some ts) t = AreTruths b ts × (t ≡ truths)
    HasType b (equal x y) t = (s : Ty) × HasType b x s × HasType b y s × (t ≡ truths)
    HasType b (at_most x y) t = HasType b x integers × HasType b y integers × (t ≡ truths)
    HasType b (for_all ss ps x) t = (ts : List Ty) × (kinds_of ts ≡ ss) × ArePatterns (reverse ts ++ b) ps × HasType (reverse ts ++ b) x truths × (t ≡ truths)
    HasType b (exists ss ps x) t = (ts : List Ty) × (kinds_of ts ≡ ss) × ArePatterns (reverse ts ++ b) ps × HasType (reverse ts ++ b) x truths × (t ≡ truths)

    -- terms of these types, as many
    pub HaveTypes : List Ty → List Ty → Trees → Type 0
    HaveTypes b [] no_trees = ⊤
    HaveTypes b (s ∷ ss) (tree x xs) = HasType b x s × HaveTypes b ss xs
    HaveTypes b (s ∷ ss) no_trees = ⊥
    HaveTypes b [] (tree x xs) = ⊥

    pub AreTruths : List Ty → Trees → Type 0
    AreTruths b no_trees = ⊤
    AreTruths b (tree x xs) = HasType b x truths × AreTruths b xs

    pub AreIntegers : List Ty → Parts → Type 0
    AreIntegers b no_parts = ⊤
    AreIntegers b (part k x ps) = HasType b x integers × AreIntegers b ps

    -- the patterns of triggers may have any types
    pub AreTyped : List Ty → Trees → Type 0
    AreTyped b no_trees = ⊤
    AreTyped b (tree x xs) = (s : Ty) × HasType b x s × AreTyped b xs

    pub ArePatterns : List Ty → Patterns → Type 0
    ArePatterns b no_patterns = ⊤
    ArePatterns b (pattern xs ps) = AreTyped b xs × ArePatterns b ps

-- a definition with these types: its body has its type under those of its parameters, over the definitions before it
pub record IsTypedDef (vars : List Ty) (before : List Head) (head : Head) (d : Def) : Type 0 where
  pub params : d.params ≡ kinds_of head.0
  pub sort : d.sort ≡ kind_of head.1
  pub body : HasType vars before (reverse head.0) d.body head.1

-- each of the types is that of the definition of its number
abbrev pub AreTypedDefs : List Ty → List Head → List Def → Type 0
AreTypedDefs vars heads defs = (f : ℕ) (h : Head) → slice_get heads f ≡ Some h → (d : Def) × (slice_get defs f ≡ Some d) × IsTypedDef vars (take f heads) h d
