use Rattle.std.proofs.Common.{◌≡◌, ℕ, List, [], ◌∷◌, ◌++◌, length, drop, sym, ap, ◌∙◌, subst, length-append, length-drop, arith, rules}
use Rattle.std.proofs.lemmas.List.{take-append-drop}
use Rattle.kind.specs.declared.Kind.{Kind}
use Rattle.kind.specs.Kinds.{address_of, goes_to}
use Rattle.layout.specs.Elements.{common, kind_of, address_at}
use Rattle.layout.specs.Layout.{octets_of}
use Rattle.frame.specs.Shown.{content_kind}
use Rattle.writer.specs.declared.pen.Pen.{Pen}
use Rattle.writer.specs.Pens.{left, Puts}
use Rattle.writer.specs.Sent.{Outgoing, placed, body_shown, encoded}
use Rattle.writer.proofs.Bodies.{kind_shown, frame_size}
use Rattle.writer.proofs.Pens.{Written, more}
use Rattle.writer.proofs.encoder.put_frame.Goals as goal

-- the frame but for its End
abbrev head : Outgoing → List ℕ → List ℕ
head f to = to ++ f.source ++ (0x88 ∷ 0xE3 ∷ []) ++ (0 ∷ 1 ∷ [])

abbrev to_common : Outgoing → List ℕ
to_common f = head f (address_at (kind_of (body_shown f.content))) ++ octets_of (body_shown f.content) ++ octets_of (common f.sequence (placed 0 f.domain))

as_far : (f : Outgoing) (k : Kind) (out : List ℕ) (p q r : Pen) → k ≡ content_kind f.content → Written [] (head f (address_of (goes_to k))) out p →
    Puts (octets_of (body_shown f.content)) p q → Puts (octets_of (common f.sequence (placed 0 f.domain))) q r → Written [] (to_common f) out r
as_far f k out p q r e w m n =
    let to : address_of (goes_to k) ≡ address_at (kind_of (body_shown f.content)) = ap (λ x. address_of (goes_to x)) e ∙ sym (ap address_at (kind_shown f.content)) in
    let w1 = subst (λ xs. Written [] (head f xs) out p) to w in
    more r _ (more q _ w1 m) n

pub put-requires : goal.put-requires
put-requires c =
    let f = c.args.frame.now in
    let out = c.args.out.now in
    let w = as_far f c.kind.result out c.put_head.new.self c.put_content.new.self c.put_common.new.self c.kind.ensures (record { puts = c.put_head.ensures.1; keeps = c.put_head.ensures.2 }) c.put_content.ensures.puts c.put_common.ensures in
    let room = ap length w.keeps ∙ length-drop (length (to_common f)) out in
    let whole = length-append (to_common f) (0 ∷ 0 ∷ []) in
    let total = frame_size f.source f.content f.sequence 0 f.domain (search rules) c.put_content.ensures.fits (search rules) in
    let long = c.requires in
    omega (arith, room, whole, total, long)

pub returns-clause-size : goal.returns-clause-size
returns-clause-size c =
    let f = c.args.frame.now in
    frame_size f.source f.content f.sequence 0 f.domain (search rules) c.put_content.ensures.fits (search rules)

pub returns-clause-octets : goal.returns-clause-octets
returns-clause-octets c =
    let f = c.args.frame.now in
    let out = c.args.out.now in
    let q = c.put.new.self in
    let w = as_far f c.kind.result out c.put_head.new.self c.put_content.new.self c.put_common.new.self c.kind.ensures (record { puts = c.put_head.ensures.1; keeps = c.put_head.ensures.2 }) c.put_content.ensures.puts c.put_common.ensures in
    let v = more q (0 ∷ 0 ∷ []) w c.put.ensures in
    let e : q.out.now ≡ encoded f ++ drop (length (encoded f)) out = sym (take-append-drop q.at q.out.now) ∙ ap (λ xs. xs ++ left q) v.puts ∙ ap (λ xs. encoded f ++ xs) v.keeps in
    search rules
