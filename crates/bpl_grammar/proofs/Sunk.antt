-- Parts so many nestings deep: what they spell, how deep their tokens lie, and how they come apart.
use Rattle.std.specs.Prelude.{◌≡◌, ℕ, zero, suc, ◌+◌, List, Option, Some, None, option_map}
use Rattle.std.proofs.Common.{refl, ap, ◌∙◌, arith}
use Rattle.bpl_grammar.specs.Lexeme.{Lexeme}
use Rattle.bpl_grammar.specs.Part.{Part, nothing, ◌⨟◌, inside, longest, Rule, rule}
use Rattle.bpl_grammar.specs.Grammar.{grammar}
use Rattle.bpl_grammar.specs.Spelling.{Takes, Spells, both, empty, deeper, whole, by}
use Rattle.bpl_grammar.specs.Nesting.{Lies, first, later, deeper as lies_deeper, whole as lies_whole, by as lies_by}
use Rattle.bpl_grammar.specs.Derivative.{empties, within, left_of}
use Rattle.bpl_grammar.specs.Depth.{depth_of}
use Rattle.bpl_grammar.specs.Judge.{judge}
use Rattle.bpl_grammar.specs.Follows.{IsReached}
use Rattle.bpl_grammar.specs.Reads.{sunk}
use Rattle.bpl_grammar.proofs.Same.{judge_same}

pub up : (n : ℕ) {p : Part} {ts us : List Lexeme} → Takes p ts us → Takes (sunk n p) ts us
up zero d = d
up (suc n) d = up n (deeper d)

undeep : {p : Part} {ts us : List Lexeme} → Takes (inside p) ts us → Takes p ts us
undeep (deeper d) = d

pub down : (n : ℕ) {p : Part} {ts us : List Lexeme} → Takes (sunk n p) ts us → Takes p ts us
down zero d = d
down (suc n) d = undeep (down n d)

pub lies_up : (n : ℕ) {p : Part} {ts : List Lexeme} (m j : ℕ) → j ≡ n + m → Lies p ts m → Lies (sunk n p) ts j
lies_up zero m j e l =
    let same : j ≡ m = omega arith in
    rw same l
lies_up (suc n) m j e l = lies_up n (suc m) j (omega arith) (lies_deeper l)

pub record IsDown (n : ℕ) (p : Part) (ts : List Lexeme) (j : ℕ) : Type 0 where
  pub depth : ℕ
  pub sum : j ≡ n + depth
  pub lies : Lies p ts depth

undeep_lies : (n : ℕ) (p : Part) (ts : List Lexeme) (j m : ℕ) → j ≡ n + m → Lies (inside p) ts m → IsDown (suc n) p ts j
undeep_lies n p ts j m e (lies_deeper {n = k} l) = record { depth = k; sum = omega arith; lies = l }

pub lies_down : (n : ℕ) (p : Part) (ts : List Lexeme) (j : ℕ) → Lies (sunk n p) ts j → IsDown n p ts j
lies_down zero p ts j l = record { depth = j; sum = omega arith; lies = l }
lies_down (suc n) p ts j l =
    let d = lies_down n (inside p) ts j l in
    undeep_lies n p ts j d.depth d.sum d.lies

pub empties_sunk : (n : ℕ) (p : Part) → empties 12 (sunk n p) ≡ empties 12 p
empties_sunk zero p = refl
empties_sunk (suc n) p = empties_sunk n (inside p)

sunk_within : (n : ℕ) (o : Option Part) → option_map (sunk n) (within o) ≡ option_map (sunk (suc n)) o
sunk_within n None = refl
sunk_within n (Some p) = refl

pub left_sunk : (n : ℕ) (t : Lexeme) (p : Part) → left_of t (sunk n p) ≡ option_map (sunk n) (left_of t p)
left_sunk zero t p = whole_option (left_of t p)
  where
    whole_option : (o : Option Part) → o ≡ option_map (sunk zero) o
    whole_option None = refl
    whole_option (Some q) = refl
left_sunk (suc n) t p = left_sunk n t (inside p) ∙ sunk_within n (left_of t p)

add_suc : (n : ℕ) (o : Option ℕ) → option_map (λ m. n + m) (option_map suc o) ≡ option_map (λ m. suc n + m) o
add_suc n None = refl
add_suc n (Some m) =
    let e : n + suc m ≡ suc n + m = omega arith in
    ap Some e

pub depth_sunk : (n : ℕ) (t : Lexeme) (p : Part) → depth_of t (sunk n p) ≡ option_map (λ m. n + m) (depth_of t p)
depth_sunk zero t p = whole_option (depth_of t p)
  where
    whole_option : (o : Option ℕ) → o ≡ option_map (λ m. zero + m) o
    whole_option None = refl
    whole_option (Some m) =
        let e : m ≡ zero + m = omega arith in
        ap Some e
depth_sunk (suc n) t p = depth_sunk n t (inside p) ∙ add_suc n (depth_of t p)

-- parts that take and lie alike can stand for one another, at any depth

pub record AreAlike (p q : Part) : Type 0 where
  pub takes : (ts us : List Lexeme) → Takes p ts us → Takes q ts us
  pub lies : (ts : List Lexeme) (n : ℕ) → Lies p ts n → Lies q ts n
  pub takes_back : (ts us : List Lexeme) → Takes q ts us → Takes p ts us
  pub lies_back : (ts : List Lexeme) (n : ℕ) → Lies q ts n → Lies p ts n

pub reached : {p : Part} {ts : List Lexeme} {n : ℕ} → Lies p ts n → IsReached p ts n
reached {n = n} l = (n, omega arith, l)

swap_spells : (n : ℕ) (p q k : Part) → ((ts us : List Lexeme) → Takes p ts us → Takes q ts us) → (ts : List Lexeme) → Spells (sunk n p ⨟ k) ts → Spells (sunk n q ⨟ k) ts
swap_spells n p q k f ts (both {us = us} d h) = both (up n (f ts us (down n d))) h

swap_lies : (n : ℕ) (p q k : Part) → ((ts us : List Lexeme) → Takes p ts us → Takes q ts us) → ((ts : List Lexeme) (m : ℕ) → Lies p ts m → Lies q ts m)
    → (ts : List Lexeme) (m : ℕ) → Lies (sunk n p ⨟ k) ts m → IsReached (sunk n q ⨟ k) ts m
swap_lies n p q k f g ts m (first l) =
    let d = lies_down n p ts m l in
    reached (first (lies_up n d.depth m d.sum (g ts d.depth d.lies)))
swap_lies n p q k f g ts m (later {us = us} d l) = reached (later (up n (f ts us (down n d))) l)

pub alike : (n : ℕ) (p q k : Part) → AreAlike p q → (ts : List Lexeme) → judge (sunk n p ⨟ k) ts ≡ judge (sunk n q ⨟ k) ts
alike n p q k a ts = judge_same ts (sunk n p ⨟ k) (sunk n q ⨟ k) (record {
  there = record { spells = swap_spells n p q k a.takes; lies = swap_lies n p q k a.takes a.lies };
  back = record { spells = swap_spells n q p k a.takes_back; lies = swap_lies n q p k a.takes_back a.lies_back };
})

rule_takes : {r : Rule} {ts us : List Lexeme} → Takes (rule r) ts us → Takes (grammar r) ts us
rule_takes (by d) = d

rule_lies : {r : Rule} {ts : List Lexeme} {n : ℕ} → Lies (rule r) ts n → Lies (grammar r) ts n
rule_lies (lies_by l) = l

pub alike_rule : (r : Rule) → AreAlike (rule r) (grammar r)
alike_rule r = record { takes = λ ts us d. rule_takes d; lies = λ ts n l. rule_lies l; takes_back = λ ts us d. by d; lies_back = λ ts n l. lies_by l }

longest_takes : {p : Part} {ts us : List Lexeme} → Takes (longest p) ts us → Takes p ts us
longest_takes (whole d) = d

longest_lies : {p : Part} {ts : List Lexeme} {n : ℕ} → Lies (longest p) ts n → Lies p ts n
longest_lies (lies_whole l) = l

pub alike_longest : (p : Part) → AreAlike (longest p) p
alike_longest p = record { takes = λ ts us d. longest_takes d; lies = λ ts n l. longest_lies l; takes_back = λ ts us d. whole d; lies_back = λ ts n l. lies_whole l }

-- a production, where it stands
pub judge_rule : (n : ℕ) (r : Rule) (k : Part) (ts : List Lexeme) → judge (sunk n (rule r) ⨟ k) ts ≡ judge (sunk n (grammar r) ⨟ k) ts
judge_rule n r k ts = alike n (rule r) (grammar r) k (alike_rule r) ts

pub judge_longest : (n : ℕ) (p k : Part) (ts : List Lexeme) → judge (sunk n (longest p) ⨟ k) ts ≡ judge (sunk n p ⨟ k) ts
judge_longest n p k ts = alike n (longest p) p k (alike_longest p) ts

-- one part after another

order_spells : (n : ℕ) (p q k : Part) (ts : List Lexeme) → Spells (sunk n (p ⨟ q) ⨟ k) ts → Spells (sunk n p ⨟ (sunk n q ⨟ k)) ts
order_spells n p q k ts (both {us = us} d h) = apart us (down n d) h
  where
    apart : (us : List Lexeme) → Takes (p ⨟ q) ts us → Spells k us → Spells (sunk n p ⨟ (sunk n q ⨟ k)) ts
    apart us (both d e) h = both (up n d) (both (up n e) h)

spells_order : (n : ℕ) (p q k : Part) (ts : List Lexeme) → Spells (sunk n p ⨟ (sunk n q ⨟ k)) ts → Spells (sunk n (p ⨟ q) ⨟ k) ts
spells_order n p q k ts (both d (both e h)) = both (up n (both (down n d) (down n e))) h

order_lies : (n : ℕ) (p q k : Part) (ts : List Lexeme) (m : ℕ) → Lies (sunk n (p ⨟ q) ⨟ k) ts m → IsReached (sunk n p ⨟ (sunk n q ⨟ k)) ts m
order_lies n p q k ts m (first l) = let d = lies_down n (p ⨟ q) ts m l in apart d.depth d.sum d.lies
  where
    apart : (j : ℕ) → m ≡ n + j → Lies (p ⨟ q) ts j → IsReached (sunk n p ⨟ (sunk n q ⨟ k)) ts m
    apart j e (first l) = reached (first (lies_up n j m e l))
    apart j e (later d l) = reached (later (up n d) (first (lies_up n j m e l)))
order_lies n p q k ts m (later {us = us} d l) = apart us (down n d) l
  where
    apart : (us : List Lexeme) → Takes (p ⨟ q) ts us → Lies k us m → IsReached (sunk n p ⨟ (sunk n q ⨟ k)) ts m
    apart us (both d e) l = reached (later (up n d) (later (up n e) l))

lies_order : (n : ℕ) (p q k : Part) (ts : List Lexeme) (m : ℕ) → Lies (sunk n p ⨟ (sunk n q ⨟ k)) ts m → IsReached (sunk n (p ⨟ q) ⨟ k) ts m
lies_order n p q k ts m (first l) =
    let d = lies_down n p ts m l in
    reached (first (lies_up n d.depth m d.sum (first d.lies)))
lies_order n p q k ts m (later {us = us} d (first l)) =
    let e = lies_down n q us m l in
    reached (first (lies_up n e.depth m e.sum (later (down n d) e.lies)))
lies_order n p q k ts m (later d (later e l)) = reached (later (up n (both (down n d) (down n e))) l)

pub judge_order : (n : ℕ) (p q k : Part) (ts : List Lexeme) → judge (sunk n (p ⨟ q) ⨟ k) ts ≡ judge (sunk n p ⨟ (sunk n q ⨟ k)) ts
judge_order n p q k ts = judge_same ts (sunk n (p ⨟ q) ⨟ k) (sunk n p ⨟ (sunk n q ⨟ k)) (record {
  there = record { spells = order_spells n p q k; lies = order_lies n p q k };
  back = record { spells = spells_order n p q k; lies = lies_order n p q k };
})

-- nothing, and then another part

nothing_spells : (n : ℕ) (k : Part) (ts : List Lexeme) → Spells (sunk n nothing ⨟ k) ts → Spells k ts
nothing_spells n k ts (both {us = us} d h) = apart us (down n d) h
  where
    apart : (us : List Lexeme) → Takes nothing ts us → Spells k us → Spells k ts
    apart us empty h = h

nothing_lies : (n : ℕ) (k : Part) (ts : List Lexeme) (m : ℕ) → Lies (sunk n nothing ⨟ k) ts m → IsReached k ts m
nothing_lies n k ts m (first l) = let d = lies_down n nothing ts m l in absurd (nowhere d.depth d.lies)
  where
    nowhere : (j : ℕ) → Lies nothing ts j → ⊥
    nowhere j h = elim h [ ]
nothing_lies n k ts m (later {us = us} d l) = apart us (down n d) l
  where
    apart : (us : List Lexeme) → Takes nothing ts us → Lies k us m → IsReached k ts m
    apart us empty l = reached l

pub judge_nothing : (n : ℕ) (k : Part) (ts : List Lexeme) → judge (sunk n nothing ⨟ k) ts ≡ judge k ts
judge_nothing n k ts = judge_same ts (sunk n nothing ⨟ k) k (record {
  there = record { spells = nothing_spells n k; lies = nothing_lies n k };
  back = record { spells = λ us h. both (up n empty) h; lies = λ us m l. reached (later (up n empty) l) };
})
