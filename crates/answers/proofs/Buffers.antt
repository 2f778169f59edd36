-- A buffer that is written from its front on, piece by piece.
use Rattle.std.proofs.Common.{◌≡◌, ℕ, ◌+◌, ◌≤◌, List, ◌++◌, length, take, drop, Ok, Result, sym, ap, ◌∙◌, arith, length-append}
use borrow.Rule.Slice.PartMut.{put_mid}
use Rattle.std.proofs.lemmas.List.{append_assoc, take_at, drop_at, drop-drop, length-take-le}
use Rattle.std.proofs.lemmas.Bool.{le-ltb, cond-false}
use Rattle.answers.specs.declared.Refusal.{Refusal}
use Rattle.answers.specs.Buffers.{fronted, pasted, Put, Written}

-- one write to a part of it
pub put_pasted : (bs part out : List ℕ) (at k : ℕ) → part ≡ bs → k ≡ length bs → put_mid at k out part ≡ pasted bs at out
put_pasted bs part out at k e l =
    ap (λ z. take at out ++ (z ++ drop k (drop at out))) e ∙ ap (λ z. take at out ++ (bs ++ z)) (drop-drop k at out ∙ ap (λ z. drop (at + z) out) l)

-- two writes in a row
pub pasted-pasted : (a b out : List ℕ) (at : ℕ) → at + length a ≤ length out → pasted b (at + length a) (pasted a at out) ≡ pasted (a ++ b) at out
pasted-pasted a b out at h =
    let front : List ℕ = take at out ++ a in
    let lf : length front ≡ at + length a = length-append (take at out) a ∙ ap (λ z. z + length a) (length-take-le at out (omega arith)) in
    let whole : pasted a at out ≡ front ++ drop (at + length a) out = sym (append_assoc (take at out) a (drop (at + length a) out)) in
    let t : take (at + length a) (pasted a at out) ≡ front = ap (take (at + length a)) whole ∙ take_at front _ (at + length a) lf in
    let k : at + length a + length b ≡ at + length (a ++ b) = simp length-append (omega arith) in
    let d : drop (at + length a + length b) (pasted a at out) ≡ drop (at + length (a ++ b)) out =
    sym (drop-drop (length b) (at + length a) (pasted a at out))
    ∙ ap (drop (length b)) (ap (drop (at + length a)) whole ∙ drop_at front (drop (at + length a) out) (at + length a) lf)
    ∙ drop-drop (length b) (at + length a) out ∙ ap (λ z. drop z out) k in
    ap (λ z. z ++ (b ++ drop (at + length a + length b) (pasted a at out))) t
    ∙ ap (λ z. front ++ (b ++ z)) d
    ∙ append_assoc (take at out) a (b ++ drop (at + length (a ++ b)) out)
    ∙ ap (λ z. take at out ++ z) (sym (append_assoc a b (drop (at + length (a ++ b)) out)))

-- all of them from the front
pub pasted_front : (bs out : List ℕ) → pasted bs 0 out ≡ fronted bs out
pasted_front bs out = let k : 0 + length bs ≡ length bs = omega arith in ap (λ z. bs ++ drop z out) k

-- the same with the places that the two ended at
pub then_put : {a b was mid is : List ℕ} {at next end : ℕ} (whole : List ℕ) → whole ≡ a ++ b → at + length whole ≤ length was → Put a at was mid next → Put b next mid is end → Put whole at was is end
then_put {a} {b} {was} {mid} {is} {at} {next} {end} whole e room p q =
    let l : length whole ≡ length a + length b = ap length e ∙ length-append a b in
    record {
      ends = q.ends ∙ ap (λ z. z + length b) p.ends ∙ omega arith;
      after = q.after ∙ ap (λ z. pasted b z mid) p.ends ∙ ap (pasted b (at + length a)) p.after ∙ pasted-pasted a b was at (omega arith) ∙ ap (λ z. pasted z at was) (sym e);
    }

-- a buffer with room takes all
pub written_whole : (bs was is : List ℕ) (r : Result ℕ Refusal) → Written bs was is r → length bs ≤ length was → (r ≡ Ok (length bs)) × (is ≡ fronted bs was)
written_whole bs was is r w room =
    let l = le-ltb (length was) (length bs) room in
    (w.answer ∙ cond-false _ _ _ l, w.after ∙ cond-false _ _ _ l)
