use Rattle.std.proofs.Common.{◌≡◌, ◌≤◌, ◌-◌, ◌+◌, arith, length, rules}
use Rattle.host_plain.proofs.Choosing.{aged_words-both, aged_words-count}
use Rattle.host_plain.proofs.words.Words.age.Goals as goal

pub age_between-requires-else-count-behind-2-clause-within :
    goal.age_between-requires-else-count-behind-2-clause-within
age_between-requires-else-count-behind-2-clause-within c =
    let same = aged_words-count c.args.self.now c.age_between-else-count-behind.new.self c.args.hand
    (c.args.hand + (c.len.result - c.args.hand) - c.args.hand) c.age_between-else-count-behind.ensures in
    omega (arith, same, c.requires.count)

pub returns-else-count-behind : goal.returns-else-count-behind
returns-else-count-behind c =
    let whole : c.len.result ≡ length c.args.self.now = search rules in
    let behind : c.args.hand + (c.len.result - c.args.hand) - c.args.hand ≡ c.len.result - c.args.hand = omega arith in
    let rest : c.args.count - (c.len.result - c.args.hand) - 0 ≡ c.args.count - (c.len.result - c.args.hand) = omega arith in
    let round : c.args.hand + (c.len.result - c.args.hand) ≡ length c.args.self.now = omega (arith, whole, c.requires.hand) in
    let most : c.args.count - (c.len.result - c.args.hand) ≤ length c.args.self.now = omega (arith, c.requires.count) in
    let all : (c.len.result - c.args.hand) + (c.args.count - (c.len.result - c.args.hand)) ≡ c.args.count = omega (arith, c.if-count-behind.false) in
    aged_words-both c.args.self.now c.age_between-else-count-behind.new.self c.age_between-else-count-behind-2.new.self c.args.hand _ _ (c.args.count - (c.len.result - c.args.hand))
    (c.len.result - c.args.hand) c.args.count behind rest round most all
    c.age_between-else-count-behind.ensures c.age_between-else-count-behind-2.ensures
