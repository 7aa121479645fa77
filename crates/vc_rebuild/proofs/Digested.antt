-- The first procedure with a text, by the digests of texts.
use Rattle.std.specs.Prelude.{◌≡◌, refl, ℕ, zero, suc, Bool, true, false, ◌||◌, cond, not, List, [], ◌∷◌, slice_get, bytes_eq, is_some, Option, Some, None, option_map, Result, Ok, Err, OnOk}
use Rattle.std.proofs.Common.{ap, sym, ◌+◌, ◌∙◌, true≢false, arith}
use Rattle.std.proofs.lemmas.Bool.{or_left, or_right}
use Rattle.std.proofs.lemmas.Slice.Eq.{bytes_eq-Decides}
use Rattle.sha2.specs.Sha256.{sha256}
use Rattle.bpl_scopes.specs.Positions.{first_at}
use Rattle.vc_build.specs.Rebuild.{BuiltProc, stands_in}
use Rattle.vc_rebuild.specs.Kept.{with_text, is_new}
use Rattle.vc_rebuild.specs.Inside.{digests_of, found_from, having_text}

module _ (text : List ℕ) where
  -- where the texts are the same, the digests are
  with_digest : (b : BuiltProc) → bytes_eq text b.depends ≡ true → bytes_eq (sha256 text) (sha256 b.depends) ≡ true
  with_digest b e = (bytes_eq-Decides (sha256 text) (sha256 b.depends)).1 (ap sha256 ((bytes_eq-Decides text b.depends).0 e))

  pub none_with : (bs : List BuiltProc) → first_at (sha256 text) (digests_of bs) ≡ None → with_text bs text ≡ None
  none_with [] e = refl
  none_with (b ∷ bs) e = by (bytes_eq (sha256 text) (sha256 b.depends)) refl (bytes_eq text b.depends) refl e (none_with bs)
    where
      none_before : (o : Option ℕ) → option_map suc o ≡ None → o ≡ None
      none_before None f = refl
      none_before (Some k) f = absurd (cc)

      by : (t : Bool) → bytes_eq (sha256 text) (sha256 b.depends) ≡ t → (s : Bool) → bytes_eq text b.depends ≡ s → cond t (Some 0) (option_map suc (first_at (sha256 text) (digests_of bs))) ≡ None
          → (first_at (sha256 text) (digests_of bs) ≡ None → with_text bs text ≡ None) → cond s (Some b) (with_text bs text) ≡ None
      by true p s q f g = absurd (cc)
      by false p true q f g = absurd (true≢false (sym (with_digest b q) ∙ p))
      by false p false q f g = g (none_before (first_at (sha256 text) (digests_of bs)) f)

  first_found : (bs : List BuiltProc) (at : ℕ) → first_at (sha256 text) (digests_of bs) ≡ Some at → (c : BuiltProc) → slice_get bs at ≡ Some c → bytes_eq text c.depends ≡ true → with_text bs text ≡ Some c
  first_found [] at e c f g = absurd (cc)
  first_found (b ∷ bs) at e c f g = by (bytes_eq (sha256 text) (sha256 b.depends)) refl (bytes_eq text b.depends) refl at e f (first_found bs)
    where
      later : (o : Option ℕ) (at : ℕ) → option_map suc o ≡ Some at → slice_get (b ∷ bs) at ≡ Some c → ((k : ℕ) → o ≡ Some k → (x : BuiltProc) → slice_get bs k ≡ Some x → bytes_eq text x.depends ≡ true → with_text bs text ≡ Some x) → with_text bs text ≡ Some c
      later None at p q k = absurd (cc)
      later (Some n) zero p q k = absurd (cc)
      later (Some n) (suc at) p q k = let same : n ≡ at = cc in k at (ap Some same) c q g

      by : (t : Bool) → bytes_eq (sha256 text) (sha256 b.depends) ≡ t → (s : Bool) → bytes_eq text b.depends ≡ s → (at : ℕ) → cond t (Some 0) (option_map suc (first_at (sha256 text) (digests_of bs))) ≡ Some at → slice_get (b ∷ bs) at ≡ Some c
          → ((k : ℕ) → first_at (sha256 text) (digests_of bs) ≡ Some k → (x : BuiltProc) → slice_get bs k ≡ Some x → bytes_eq text x.depends ≡ true → with_text bs text ≡ Some x) → cond s (Some b) (with_text bs text) ≡ Some c
      by true p true q zero r t k = t
      by true p false q zero r t k = let same : b ≡ c = cc in absurd (true≢false (sym g ∙ ap (λ (x : BuiltProc). bytes_eq text x.depends) (sym same) ∙ q))
      by true p s q (suc at) r t k = absurd (cc)
      by false p true q at r t k = absurd (true≢false (sym (with_digest b q) ∙ p))
      by false p false q at r t k = later (first_at (sha256 text) (digests_of bs)) at r t k

  there_is : (bs : List BuiltProc) (at : ℕ) → first_at (sha256 text) (digests_of bs) ≡ Some at → slice_get bs at ≡ None → ⊥
  there_is [] at e f = absurd (cc)
  there_is (b ∷ bs) at e f = by (bytes_eq (sha256 text) (sha256 b.depends)) at e f (there_is bs)
    where
      later : (o : Option ℕ) (at : ℕ) → option_map suc o ≡ Some at → slice_get (b ∷ bs) at ≡ None → ((k : ℕ) → o ≡ Some k → slice_get bs k ≡ None → ⊥) → ⊥
      later None at p q k = absurd (cc)
      later (Some n) zero p q k = absurd (cc)
      later (Some n) (suc at) p q k = let same : n ≡ at = cc in k at (ap Some same) q

      by : (t : Bool) (at : ℕ) → cond t (Some 0) (option_map suc (first_at (sha256 text) (digests_of bs))) ≡ Some at → slice_get (b ∷ bs) at ≡ None → ((k : ℕ) → first_at (sha256 text) (digests_of bs) ≡ Some k → slice_get bs k ≡ None → ⊥) → ⊥
      by true zero r t k = absurd (cc)
      by true (suc at) r t k = absurd (cc)
      by false at r t k = later (first_at (sha256 text) (digests_of bs)) at r t k

  pub some_with : (bs : List BuiltProc) (at : ℕ) → first_at (sha256 text) (digests_of bs) ≡ Some at → found_from bs (slice_get bs at) text ≡ with_text bs text
  some_with bs at e = by (slice_get bs at) refl
    where
      at_test : (c : BuiltProc) (s : Bool) → bytes_eq text c.depends ≡ s → slice_get bs at ≡ Some c → cond s (Some c) (with_text bs text) ≡ with_text bs text
      at_test c true q p = sym (first_found bs at e c p q)
      at_test c false q p = refl

      by : (o : Option BuiltProc) → slice_get bs at ≡ o → found_from bs o text ≡ with_text bs text
      by None p = absurd (there_is bs at e p)
      by (Some c) p = at_test c (bytes_eq text c.depends) refl p

-- a procedure with the text is found where the text stands in one
found_stands : (bs : List BuiltProc) (text : List ℕ) → is_some (with_text bs text) ≡ stands_in bs text
found_stands [] text = refl
found_stands (b ∷ bs) text = by (bytes_eq text b.depends) (found_stands bs text)
  where
    by : (s : Bool) → is_some (with_text bs text) ≡ stands_in bs text → is_some (cond s (Some b) (with_text bs text)) ≡ (s || stands_in bs text)
    by true h = refl
    by false h = h

-- a procedure is new where none with its text is found
pub told_new : (bs : List BuiltProc) (b : BuiltProc) (text : List ℕ) (o : Option BuiltProc) → text ≡ b.depends → o ≡ with_text bs text → is_new bs b ≡ not (is_some o)
told_new bs b text o same e = ap (λ t. not (stands_in bs t)) (sym same) ∙ ap not (sym (ap is_some e ∙ found_stands bs text))

pub no_step : (b : Bool) → b ≡ false → (n : ℕ) → n ≡ n + cond b 1 0
no_step true e n = absurd (true≢false e)
no_step false e n = omega arith

one_step : (b : Bool) → b ≡ true → (n : ℕ) → n + 1 ≡ n + cond b 1 0
one_step true e n = omega arith
one_step false e n = absurd (true≢false (sym e))

module _ (bs : List BuiltProc) (b : BuiltProc) (text : List ℕ) (same : text ≡ b.depends) where
  -- a candidate that is found, and none
  pub is_kept : (c : BuiltProc) → Some c ≡ with_text bs text → false ≡ is_new bs b
  is_kept c e = sym (told_new bs b text (Some c) same e)

  pub kept_step : (c : BuiltProc) → Some c ≡ with_text bs text → (n : ℕ) → n ≡ n + cond (is_new bs b) 1 0
  kept_step c e n = no_step (is_new bs b) (told_new bs b text (Some c) same e) n

  pub is_built : None ≡ with_text bs text → true ≡ is_new bs b
  is_built e = sym (told_new bs b text None same e)

  pub built_step : None ≡ with_text bs text → (n : ℕ) → n + 1 ≡ n + cond (is_new bs b) 1 0
  built_step e n = one_step (is_new bs b) (told_new bs b text None same e) n

stands_at : (bs : List BuiltProc) (at : ℕ) (text : List ℕ) (c : BuiltProc) → slice_get bs at ≡ Some c → bytes_eq text c.depends ≡ true → stands_in bs text ≡ true
stands_at [] at text c e t = absurd (cc)
stands_at (b ∷ bs) zero text c e t = let same : b ≡ c = cc in or_left (bytes_eq text b.depends) (stands_in bs text) (ap (λ (x : BuiltProc). bytes_eq text x.depends) same ∙ t)
stands_at (b ∷ bs) (suc at) text c e t = or_right (bytes_eq text b.depends) (stands_in bs text) (stands_at bs at text c e t)

stands_there : (bs : List BuiltProc) (at : ℕ) (text : List ℕ) (c : BuiltProc) → Some c ≡ having_text (slice_get bs at) text → stands_in bs text ≡ true
stands_there bs at text c = by (slice_get bs at) refl
  where
    at_test : (x : BuiltProc) (s : Bool) → bytes_eq text x.depends ≡ s → slice_get bs at ≡ Some x → Some c ≡ cond s (Some x) None → stands_in bs text ≡ true
    at_test x true q p f = stands_at bs at text x p q
    at_test x false q p f = absurd (cc)

    by : (o : Option BuiltProc) → slice_get bs at ≡ o → Some c ≡ having_text o text → stands_in bs text ≡ true
    by None p f = absurd (cc)
    by (Some x) p f = at_test x (bytes_eq text x.depends) refl p f

-- where the procedure at a place has the text, the procedure of this text is not new
module _ (bs : List BuiltProc) (b : BuiltProc) (text : List ℕ) (same : text ≡ b.depends) (at : ℕ) (c : BuiltProc) (e : Some c ≡ having_text (slice_get bs at) text) where
  pub there_is_kept : false ≡ is_new bs b
  there_is_kept = sym (ap (λ t. not (stands_in bs t)) (sym same) ∙ ap not (stands_there bs at text c e))

  pub there_no_step : (n : ℕ) → n ≡ n + cond (is_new bs b) 1 0
  there_no_step n = no_step (is_new bs b) (sym there_is_kept) n

-- what holds anyway holds at a value
pub always_ok : {T E Q : Type 0} (r : Result T E) → Q → OnOk r Q
always_ok (Ok v) q = q
always_ok (Err e) q = tt
