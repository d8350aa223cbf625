use Rattle.std.proofs.Common.{◌≡◌, ℕ, ◌+◌, ◌-◌, ◌≤◌, List, ◌++◌, length, take, drop, refl, ap, ◌∙◌, arith}
use borrow.Rule.Slice.PartMut.{put_mid}
use Rattle.std.proofs.lemmas.List.{take_at, drop_at, append_assoc, length-append, length-take-le}
use Rattle.writer.proofs.pen.Pen.put.Goals as goal

-- what octets that are put leave before the pen, and after it
after_put : (a k : ℕ) (xs ys zs : List ℕ) → ys ≡ zs → k ≡ length zs → a ≤ length xs →
    (take (a + length zs) (put_mid a k xs ys) ≡ take a xs ++ zs) × (drop (a + length zs) (put_mid a k xs ys) ≡ drop (length zs) (drop a xs))
after_put a k xs ys zs e f h =
    let l : length (take a xs ++ zs) ≡ a + length zs = length-append (take a xs) zs ∙ ap (λ n. n + length zs) (length-take-le a xs h) in
    rw (e, f, ← append_assoc (take a xs) zs (drop (length zs) (drop a xs)), take_at (take a xs ++ zs) (drop (length zs) (drop a xs)) (a + length zs) l, drop_at (take a xs ++ zs) (drop (length zs) (drop a xs)) (a + length zs) l) (refl, refl)

pub returns : goal.returns
returns c =
    let p = c.args.self.now in
    let n = length c.args.octets.now in
    let k : p.at + n - p.at ≡ n = omega arith in
    let h = after_put p.at _ p.out.now _ _ c.copy_from_slice.ensures.after k p.within in
    (refl, h.0, h.1)
