use Rattle.std.proofs.Common.{◌≡◌, ◌<◌, false, eqb, length, refl, sym, ◌∙◌, arith, length-set, ne_eqb}
use Rattle.std.proofs.lemmas.Cmp.{nat_list_eq_equiv}
use Rattle.table.proofs.Tables.{once_changed, once_added, changed_answer, changed_after, full_answer, full_after, added_answer, added_after}
use Rattle.table.proofs.table.TableSwitchSwitch.learn.Goals as goal

pub invariant_of-self : goal.invariant_of-self
invariant_of-self c =
    let s = c.args.self.now in
    record { whole = length-set _ _ _ ∙ s.whole; few = s.few; once = once_changed _ s.entries s.len c.in-Some.place _ _ c.in-Some.ensures refl s.once }

pub returns-in-Some : goal.returns-in-Some
returns-in-Some c =
    let s = c.args.self.now in
    let single = sym c.if-is_group.ensures in
    record {
      answer = changed_answer s.first s.second s.entries s.len c.args.address.octets single c.in-Some.place c.index-self-place.result c.in-Some.ensures;
      after = changed_after s.first s.second s.entries s.len c.args.address.octets single c.in-Some.place c.args.port c.index-self-place.result c.in-Some.ensures;
    }

pub returns-then-self-eq-SIZE : goal.returns-then-self-eq-SIZE
returns-then-self-eq-SIZE c =
    let s = c.args.self.now in
    let single = sym c.if-is_group.ensures in
    record {
      answer = full_answer s.first s.second s.entries s.len c.args.address.octets single c.if-self-eq-SIZE.true c.in_default.ensures;
      after = full_after s.first s.second s.entries s.len c.args.address.octets single c.args.port c.if-self-eq-SIZE.true c.in_default.ensures;
    }

pub invariant_of-self-2 : goal.invariant_of-self-2
invariant_of-self-2 c =
    let s = c.args.self.now in
    let l : s.len < length s.entries = omega arith in
    record { whole = length-set _ _ _ ∙ s.whole; few = omega arith; once = once_added s.entries s.len _ l c.in_default.ensures s.once }

pub returns : goal.returns
returns c =
    let s = c.args.self.now in
    let single = sym c.if-is_group.ensures in
    let room : eqb s.len 64 ≡ false = ne_eqb _ _ c.if-self-eq-SIZE.false in
    let l : s.len < length s.entries = omega arith in
    record {
      answer = added_answer s.first s.second s.entries s.len c.args.address.octets single room c.in_default.ensures;
      after = added_after s.first s.second s.entries s.len c.args.address.octets single _ l room (nat_list_eq_equiv.refl c.args.address.octets) c.in_default.ensures;
    }
