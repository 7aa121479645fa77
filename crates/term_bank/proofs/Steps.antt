-- One more item of a list numbered, the last one, and a refusal.
use Rattle.std.proofs.Common.{◌≡◌, refl, sym, ap, subst, ◌∙◌, ℕ, Vec, ◌+◌, ◌<◌, ◌≤◌, List, [], ◌∷◌, ◌++◌, length, take, drop, get_or, arith}
use Rattle.std.specs.List.{AllZip}
use Rattle.std.specs.declared.alloc.Global.{Global}
use Rattle.std.proofs.lemmas.List.{drop_more, take_more, take_all, at_drop_all}
use Rattle.logic_core.specs.Tree.{Tree}
use Rattle.logic_core.specs.View.{trees_of, patterns_of}
use Rattle.term_bank.specs.Numbered.{with_whole, with_each, with_patterns, Begins, IsNumber, AreNumbers, AreLists}
use Rattle.term_bank.proofs.Numbers.{begins_then, begins_each, begins_patterns}
use Rattle.term_bank.proofs.NumberedLists.{zip_push, numbers_kept, lists_kept}

-- what is left begins with the item at hand
pub left : {A : Type 0} (xs : List A) (i : ℕ) (x : A) → i < length xs → x ≡ get_or xs i x → drop i xs ≡ x ∷ drop (i + 1) xs
left xs i x l e = drop_more xs i x l ∙ ap (λ y. y ∷ drop (i + 1) xs) (sym e)

done : {A : Type 0} (xs : List A) (i : ℕ) (x : A) → i < length xs → x ≡ get_or xs i x → take (i + 1) xs ≡ take i xs ++ x ∷ []
done xs i x l e = take_more xs i x l ∙ ap (λ y. take i xs ++ y ∷ []) (sym e)

module _ (ts us all : List Tree) (vs : List Tree) (i : ℕ) (v : Tree) (l : i < length vs) (e : v ≡ get_or vs i v) (h : with_each ts (trees_of (drop i vs)) ≡ all) where
  on : with_each (with_whole ts v) (trees_of (drop (i + 1) vs)) ≡ all
  on = ap (λ xs. with_each ts (trees_of xs)) (sym (left vs i v l e)) ∙ h

  pub each_next : us ≡ with_whole ts v → with_each us (trees_of (drop (i + 1) vs)) ≡ all
  each_next q = ap (λ xs. with_each xs (trees_of (drop (i + 1) vs))) q ∙ on

  pub each_stops : Begins us (with_whole ts v) → Begins us all
  each_stops b = subst (Begins us) on (begins_then us (with_whole ts v) _ b (begins_each (with_whole ts v) (trees_of (drop (i + 1) vs))))

module _ (ts us all : List Tree) (rows : List (List Tree)) (i : ℕ) (row : List Tree) (l : i < length rows) (e : row ≡ get_or rows i row) (h : with_patterns ts (patterns_of (drop i rows)) ≡ all) where
  on_rows : with_patterns (with_each ts (trees_of row)) (patterns_of (drop (i + 1) rows)) ≡ all
  on_rows = ap (λ xs. with_patterns ts (patterns_of xs)) (sym (left rows i row l e)) ∙ h

  pub rows_next : us ≡ with_each ts (trees_of row) → with_patterns us (patterns_of (drop (i + 1) rows)) ≡ all
  rows_next q = ap (λ xs. with_patterns xs (patterns_of (drop (i + 1) rows))) q ∙ on_rows

  pub rows_stop : Begins us (with_each ts (trees_of row)) → Begins us all
  rows_stop b = subst (Begins us) on_rows (begins_then us (with_each ts (trees_of row)) _ b (begins_patterns (with_each ts (trees_of row)) (patterns_of (drop (i + 1) rows))))

-- a refusal before the next item
pub row_refused : (ts us all vs : List Tree) (i : ℕ) → with_each ts (trees_of (drop i vs)) ≡ all → us ≡ ts → Begins us all
row_refused ts us all vs i h e = subst (λ xs. Begins xs all) (sym e) (subst (Begins ts) h (begins_each ts (trees_of (drop i vs))))

-- the numbers so far, and one more
pub numbers_next : (ts us : List Tree) (ns ms : List ℕ) (vs : List Tree) (i n : ℕ) (v : Tree) → i < length vs → v ≡ get_or vs i v → Begins ts us → AreNumbers ts ns (take i vs) → IsNumber us n v → ms ≡ ns ++ n ∷ [] → AreNumbers us ms (take (i + 1) vs)
numbers_next ts us ns ms vs i n v l e b h w q = rw (q, done vs i v l e) (zip_push (IsNumber us) ns (take i vs) n v (numbers_kept ts us ns (take i vs) b h) w)

pub lists_next : (ts us : List Tree) (ns ms : List (Vec ℕ Global)) (rows : List (List Tree)) (i : ℕ) (n : Vec ℕ Global) (row : List Tree) → i < length rows → row ≡ get_or rows i row → Begins ts us → AreLists ts ns (take i rows) → AreNumbers us n.items row → ms ≡ ns ++ n ∷ [] → AreLists us ms (take (i + 1) rows)
lists_next ts us ns ms rows i n row l e b h w q = rw (q, done rows i row l e) (zip_push (λ (x : Vec ℕ Global) y. AreNumbers us x.items y) ns (take i rows) n row (lists_kept ts us ns (take i rows) b h) w)

-- at the end
pub each_ends : (ts all vs : List Tree) (i : ℕ) → length vs ≤ i → with_each ts (trees_of (drop i vs)) ≡ all → ts ≡ all
each_ends ts all vs i l h = sym (at_drop_all (λ xs. with_each ts (trees_of xs)) vs i l) ∙ h

pub rows_end : (ts all : List Tree) (rows : List (List Tree)) (i : ℕ) → length rows ≤ i → with_patterns ts (patterns_of (drop i rows)) ≡ all → ts ≡ all
rows_end ts all rows i l h = sym (at_drop_all (λ xs. with_patterns ts (patterns_of xs)) rows i l) ∙ h

pub numbers_end : (ts : List Tree) (ns : List ℕ) (vs : List Tree) (i : ℕ) → length vs ≤ i → AreNumbers ts ns (take i vs) → AreNumbers ts ns vs
numbers_end ts ns vs i l h = subst (AreNumbers ts ns) (take_all i vs l) h

pub lists_end : (ts : List Tree) (ns : List (Vec ℕ Global)) (rows : List (List Tree)) (i : ℕ) → length rows ≤ i → AreLists ts ns (take i rows) → AreLists ts ns rows
lists_end ts ns rows i l h = subst (AreLists ts ns) (take_all i rows l) h
