-- CBC-MAC by a fold over the content's chunks.
use Rattle.std.proofs.Common.{◌≡◌, ℕ, suc, ◌+◌, ◌-◌, ◌*◌, ◌/◌, ◌<◌, min, List, [], ◌∷◌, ◌++◌, length, take, drop, replicate, None, Bor, sym, refl, ap, ◌∙◌, ap₂, subst, arith}
use Rattle.std.specs.Fn.{Called, Mut}
use Rattle.std.specs.Iterator.{Yields, FoldTurn, FoldsItems}
use Rattle.std.specs.List.{FoldsTo}
use Rattle.std.specs.Slice.Iter.{chunks_steps, chunks_size, chunks_rest}
use Rattle.std.proofs.lemmas.List.{take-take, drop-drop, take_at, drop_at, take_min, drop_min, length-drop}
use Rattle.ccm.specs.Mode.{Cipher, part_of, content_block, xored, chained}

pub chained_none : (E : Cipher) (content start : List ℕ) → chained E content 0 start ≡ start
unfolding chained
chained_none E content start = refl

-- a part of the content by itself makes its block
block_alone : (content : List ℕ) (n : ℕ) → content_block (part_of content n) 0 ≡ content_block content n
unfolding content_block
block_alone content n =
    let same : take 16 (part_of content n) ≡ part_of content n = take-take 16 16 (drop (16 * n) content) (omega arith) in
    ap (λ (p : List ℕ). p ++ replicate (16 - length p) 0) same

-- a chunk c, and what is left after it
module _ (rest c after : List ℕ) (cut : rest ≡ c ++ after) (wide : length c ≡ min 16 (length rest)) where
  chunk_is : c ≡ take 16 rest
  chunk_is = sym (take_at c after (length c) refl) ∙ ap (take (length c)) (sym cut) ∙ ap (λ (k : ℕ). take k rest) wide ∙ take_min 16 rest

  after_is : after ≡ drop 16 rest
  after_is = sym (drop_at c after (length c) refl) ∙ ap (drop (length c)) (sym cut) ∙ ap (λ (k : ℕ). drop k rest) wide ∙ drop_min 16 rest

module _ {F : Type 0} (g : Mut F (List ℕ × (Bor (List ℕ) × Unit {0})) (List ℕ)) (f : F) (E : Cipher) (content start : List ℕ)
    (call : (a : List ℕ) (x : Bor (List ℕ)) (b : List ℕ) (f' : F) → Called g f (a, (x, tt)) b f' → (b ≡ E (xored a (content_block x.now 0))) × (f' ≡ f)) where
  one_more : (n : ℕ) (a b c : List ℕ) → a ≡ chained E content n start → b ≡ E (xored a (content_block c 0)) → c ≡ part_of content n → b ≡ chained E content (suc n) start
  unfolding chained
  one_more n a b c ea eb ec = eb ∙ ap E (ap₂ xored ea (ap (λ (p : List ℕ). content_block p 0) ec ∙ block_alone content n))

  walk : (xs : List (Bor (List ℕ))) (s t u : _) (a r : List ℕ) (f' : F) (n : ℕ) → chunks_size s ≡ 16 → chunks_rest s ≡ drop (16 * n) content
      → 16 * n < length content + 16 → a ≡ chained E content n start
      → Yields chunks_steps s xs t → chunks_steps t None u → FoldsTo (FoldTurn g) (f, a) xs (f', r) → r ≡ chained E content ((length content + 15) / 16) start
  walk [] s t u a r f' n z e l i y stop turns =
      let done : length (drop (16 * n) content) ≡ 0 = sym (ap length e) ∙ ap (λ v. length (chunks_rest v)) y ∙ stop.1.0 in
      let all : n ≡ (length content + 15) / 16 = omega (arith, done, length-drop (16 * n) content) in
      sym (ap (λ p. p.1) turns) ∙ i ∙ ap (λ (k : ℕ). chained E content k start) all
  walk (x ∷ xs) s t u a r f' n z e l i y stop turns =
      let rest = chunks_rest s in
      let b = turns.0.1 in
      let wide : length x.now ≡ min 16 (length rest) = y.1.1.1 ∙ ap (λ (k : ℕ). min k (length rest)) z in
      let part : x.now ≡ part_of content n = chunk_is rest x.now (chunks_rest y.0) y.1.1.0 wide ∙ ap (take 16) e in
      let further : 16 * n + 16 ≡ 16 * suc n = omega arith in
      let left : chunks_rest y.0 ≡ drop (16 * suc n) content =
      after_is rest x.now (chunks_rest y.0) y.1.1.0 wide ∙ ap (drop 16) e ∙ drop-drop 16 (16 * n) content ∙ ap (λ (k : ℕ). drop k content) further in
      let gave : (b ≡ E (xored a (content_block x.now 0))) × (turns.0.0 ≡ f) = call a x b turns.0.0 turns.1 in
      let inside : 16 * suc n < length content + 16 = omega (arith, y.1.1.2, ap length e, length-drop (16 * n) content) in
      walk xs y.0 t u b r f' (suc n) (y.1.0 ∙ z) left inside (one_more n a b x.now i gave.0 part) y.2 stop
      (subst (λ (q : F). FoldsTo (FoldTurn g) (q, b) xs (f', r)) gave.1 turns.2)

  pub chained_all : (s : _) (r : List ℕ) → chunks_size s ≡ 16 → chunks_rest s ≡ content → FoldsItems chunks_steps g s f start r
      → r ≡ chained E content ((length content + 15) / 16) start
  chained_all s r z e ran =
      walk ran.0 s ran.2.1.0 ran.2.0 start r ran.1 0 z e (omega arith) (sym (chained_none E content start)) ran.2.1.1 ran.2.1.2 ran.3
