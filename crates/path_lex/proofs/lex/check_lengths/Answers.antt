use Rattle.std.proofs.Common.{◌+◌, take, drop, ap}
use Rattle.path_lex.specs.Spelling.{name, number, placed, view, views}
use Rattle.path_lex.proofs.Lengths.{parted_at}
use Rattle.path_lex.proofs.lex.check_lengths.Goals as goal

pub returns-in-Name-clause-err : goal.returns-in-Name-clause-err
returns-in-Name-clause-err c =
    let ts = c.args.tokens.now in
    let i = c.loop-token.token-index in
    let w = c.in-Name.name.now in
    record {
      before = views (take i ts);
      text = w;
      after = views (drop (i + 1) ts);
      long = c.if-name-gt-LONGEST_WORD.true;
      within = c.loop-token.invariant;
      parts = parted_at ts i _ (placed (name w) c.in-Name.at) c.loop-token-test.true (ap view c.in-Name.is);
    }

pub returns-in-Number-clause-err : goal.returns-in-Number-clause-err
returns-in-Number-clause-err c =
    let ts = c.args.tokens.now in
    let i = c.loop-token.token-index in
    let n = c.in-Number.digits.now in
    record {
      before = views (take i ts);
      text = n;
      after = views (drop (i + 1) ts);
      long = c.if-digits-gt-LONGEST_NUMBER.true;
      within = c.loop-token.invariant;
      parts = parted_at ts i _ (placed (number n) c.in-Number.at) c.loop-token-test.true (ap view c.in-Number.is);
    }
