-- What lexemes spell is what is read of them, where what is left can't go on with it.
use Rattle.std.specs.Prelude.{◌≡◌, Bool, false, List, [], ◌∷◌, drop, IsTrue, Ok, ◌⊎◌}
use Rattle.std.proofs.Common.{refl, inl, inr, ap, sym, ◌∙◌}
use Rattle.bpl_grammar.specs.Lexeme.{Lexeme}
use Rattle.bpl_grammar.specs.Judge.{Narrow}
use Rattle.bpl_grammar.specs.Terminal.{Terminal, sees, sees_any, apart_from}
use Rattle.bpl_grammar.specs.Reading.{Read, read_as, read_token, repeated, read_behind, read_run}
use Rattle.bpl_grammar.proofs.Found.{followed_ok, read_as_ok}
use Rattle.bpl_grammar.proofs.Items.{Items, none, next, items_ok}
use Rattle.bpl_grammar.proofs.Suffixes.{Suffix, narrow_suffix}
use Rattle.bpl_grammar.proofs.Spelled.{token_rest}
use Rattle.bpl_grammar.proofs.Unique.{IsOne, Leaves, Rep, ended, further, quiet_head, quiet_tail, quiet_behind, rep_next, repeated_ends, Signed, signed, IsParted}

abbrev pub IsSure : {A : Type 0} → List Terminal → (List Lexeme → List Lexeme → A → Type 0) → (List Lexeme → Read A) → Type 0
IsSure {A} cs P read = (ls us vs : List Lexeme) (x y : A) → Narrow ls → P ls us x → read ls ≡ Ok (y, vs) → sees_any cs us ≡ false → (us ≡ vs) × (x ≡ y)

pub one_sure : {A : Type 0} (cs : List Terminal) (P : List Lexeme → List Lexeme → A → Type 0) (read : List Lexeme → Read A) → IsOne cs P read → IsSure cs P read
one_sure cs P read one = λ ls us vs x y n d h q. one ls us vs x y n d h (inl q)

-- a token behind which nothing more is read
pub closed_rest : {B : Type 0} (c : Terminal) (u : Lexeme) (us rest vs : List Lexeme) (x y : B) → u ∷ us ≡ rest → read_as (λ w. x) (read_token c rest) ≡ Ok (y, vs) → (us ≡ vs) × (x ≡ y)
closed_rest c u us rest vs x y e h =
    let r = read_as_ok (λ w. x) (read_token c rest) y vs h in
    (token_rest c u us rest vs r.value e r.reads, r.is)

module _ {A : Type 0} (begins : List Lexeme → Bool) (item : List Lexeme → Read A) (P : List Lexeme → List Lexeme → A → Type 0) (cs : List Terminal) (sure : IsSure cs P item) (leaves : Leaves P)
    (apart : (ls : List Lexeme) → IsTrue (begins ls) → sees_any cs ls ≡ false) where
  last_quiet : (ls us : List Lexeme) → (ls ≡ us) ⊎ (sees_any cs ls ≡ false) → sees_any cs us ≡ false → sees_any cs ls ≡ false
  last_quiet ls us (inl e) q = ap (sees_any cs) e ∙ q
  last_quiet ls us (inr e) q = e

  items_sure : (ls us vs : List Lexeme) (xs ys : List A) → Narrow ls → Rep begins P ls us xs → Items begins item ls vs ys → begins vs ≡ false → begins us ≡ false → sees_any cs us ≡ false → (us ≡ vs) × (xs ≡ ys)
  items_sure ls us vs [] [] n ended none e b q = (refl, refl)
  items_sure ls us vs [] (y ∷ ys) n ended (next i h r) e b q = absurd (cc (i, b))
  items_sure ls us vs (x ∷ xs) [] n (further i d r) none e b q = absurd (cc (i, e))
  items_sure ls us vs (x ∷ xs) (y ∷ ys) n (further {mid = mid} i d r) (next {rest = rest} j h g) e b q =
      let l = sure ls mid rest x y n d h (last_quiet mid us (rep_next begins P cs apart mid us xs r) q) in
      let g' = rw (← l.0) at g in
      let k = items_sure mid us vs xs ys (narrow_suffix (leaves ls mid x d) n) r g' e b q in
      (k.0, cc (l.1, k.1))

  -- items as long as one begins
  pub rep_sure : (ls us vs : List Lexeme) (xs ys : List A) → Narrow ls → Rep begins P ls us xs → repeated begins item ls ≡ Ok (ys, vs) → begins us ≡ false → sees_any cs us ≡ false → (us ≡ vs) × (xs ≡ ys)
  rep_sure ls us vs xs ys n r h b q = items_sure ls us vs xs ys n r (items_ok begins item ls vs ys h) (repeated_ends begins item ls vs ys h) b q

-- items with a sign between them
module _ {A : Type 0} (c : Terminal) (item : List Lexeme → Read A) (P : List Lexeme → List Lexeme → A → Type 0) (cs : List Terminal) (sure : IsSure cs P item) (leaves : Leaves P) (apart : IsTrue (apart_from c cs)) where
  signed_sure : IsSure cs (Signed c P) (λ us. item (drop 1 us))
  signed_sure = λ ls us vs x y n d h q. by_sign ls us vs x y n d h q
    where
      by_sign : (ls us vs : List Lexeme) (x y : A) → Narrow ls → Signed c P ls us x → item (drop 1 ls) ≡ Ok (y, vs) → sees_any cs us ≡ false → (us ≡ vs) × (x ≡ y)
      by_sign [] us vs x y n d h q = elim d [ ]
      by_sign (t ∷ ls) us vs x y n (signed i d) h q = sure ls us vs x y n.1 d h q

  signed_left : Leaves (Signed c P)
  signed_left = λ ls us x d. by_sign ls us x d
    where
      by_sign : (ls us : List Lexeme) (x : A) → Signed c P ls us x → Suffix ls us
      by_sign [] us x d = elim d [ ]
      by_sign (t ∷ ls) us x (signed i d) = Suffix.later (leaves ls us x d)

  pub run_sure : {B : Type 0} (f : List A → B) (ls us vs : List Lexeme) (e : B) (ys : List A) → Narrow ls → IsParted f c P ls us e → read_run c item ls ≡ Ok (ys, vs) → sees_any (c ∷ cs) us ≡ false → (us ≡ vs) × (e ≡ f ys)
  run_sure f ls us vs e ys n p h q =
      let o = followed_ok (item ls) (λ x rest. read_as (λ xs. x ∷ xs) (read_behind c item rest)) (ys, vs) h in
      let r = read_as_ok (λ xs. o.first ∷ xs) (read_behind c item o.rest) ys vs o.then in
      let quiet = quiet_tail c cs us q in
      let l = sure ls p.middle o.rest p.first o.first n p.there o.reads (before p.middle (rep_next (sees c) (Signed c P) cs (λ ws b. quiet_behind c cs ws apart b) p.middle us p.others p.behind) quiet) in
      let k = rep_sure (sees c) (λ ws. item (drop 1 ws)) (Signed c P) cs signed_sure signed_left (λ ws b. quiet_behind c cs ws apart b) p.middle us vs p.others r.value
      (narrow_suffix (leaves ls p.middle p.first p.there) n) p.behind (ap (read_behind c item) l.0 ∙ r.reads) (quiet_head c cs us q) quiet in
      (k.0, sym p.same ∙ (ap f (pair p.first o.first p.others r.value l.1 k.1) ∙ ap f r.is))
    where
      before : (ls : List Lexeme) → (ls ≡ us) ⊎ (sees_any cs ls ≡ false) → sees_any cs us ≡ false → sees_any cs ls ≡ false
      before ls (inl e) q = ap (sees_any cs) e ∙ q
      before ls (inr e) q = e

      pair : (x y : A) (xs zs : List A) → x ≡ y → xs ≡ zs → ◌≡◌ {A = List A} (x ∷ xs) (y ∷ zs)
      pair x y xs zs a b = cc (a, b)
