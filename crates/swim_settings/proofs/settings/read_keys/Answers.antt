use Rattle.std.proofs.Common.{rules}
use Rattle.std.proofs.lemmas.Result.{err_from_is_err_and}
use Rattle.toml.specs.View.{table_view}
use Rattle.swim_settings.specs.declared.key.Key.TheVariants as keys
use Rattle.swim_settings.specs.Keys.{keys_before}
use Rattle.swim_settings.proofs.Naming.{all_levels, all_presets}
use Rattle.swim_settings.proofs.Taken.{AreTaken-push}
use Rattle.swim_settings.proofs.settings.read_keys.Goals as goal

pub read_word-requires : goal.read_word-requires
read_word-requires c = record { all = all_presets }

pub read_word-requires-2 : goal.read_word-requires-2
read_word-requires-2 c = record { all = all_levels }

pub returns-in_err-random_key-clause-refused : goal.returns-in_err-random_key-clause-refused
returns-in_err-random_key-clause-refused c =
    let fault = err_from_is_err_and c.from_residual-in_err-random_key.result c.from_residual-in_err-random_key.ensures.1 in
    rw (fault.1, fault.2, c.in_err-random_key.ensures.none.0) (c.in_ok-settings.ensures.taken, c.in_err-random_key.ensures.none.1)

-- the limit was taken, so the block may be read
pub read_block_and_rules-requires-clause-taken : goal.read_block_and_rules-requires-clause-taken
read_block_and_rules-requires-clause-taken c =
    let t = table_view c.args.table.now in
    let limit = c.in_ok-limit in
    AreTaken-push t (keys_before keys.Limit) keys.Limit c.in_ok-member.ensures.taken (limit.limit, (limit.ensures.number, limit.ensures.range.0, limit.ensures.range.1))

pub returns-in_err-join-clause-refused : goal.returns-in_err-join-clause-refused
returns-in_err-join-clause-refused c =
    let t = table_view c.args.table.now in
    let taken = AreTaken-push t (keys_before keys.RandomKey) keys.RandomKey c.in_ok-settings.ensures.taken (c.in_ok-random_key.random_key, c.in_ok-random_key.ensures.bytes) in
    let fault = err_from_is_err_and c.from_residual-in_err-join.result c.from_residual-in_err-join.ensures.1 in
    rw (fault.1, fault.2, c.in_err-join.ensures.none.0) (taken, c.in_err-join.ensures.none.1)

pub returns-in_err-rejoin-clause-refused : goal.returns-in_err-rejoin-clause-refused
returns-in_err-rejoin-clause-refused c =
    let t = table_view c.args.table.now in
    let to_random_key = AreTaken-push t (keys_before keys.RandomKey) keys.RandomKey c.in_ok-settings.ensures.taken (c.in_ok-random_key.random_key, c.in_ok-random_key.ensures.bytes) in
    let taken = AreTaken-push t (keys_before keys.Join) keys.Join to_random_key (c.in_ok-join.join.items, c.in_ok-join.ensures.places) in
    let fault = err_from_is_err_and c.from_residual-in_err-rejoin.result c.from_residual-in_err-rejoin.ensures.1 in
    rw (fault.1, fault.2, c.in_err-rejoin.ensures.none.0) (taken, (c.of-times.result, (c.in_ok-preset.preset, c.in_ok-preset.ensures.word, c.of-times.ensures.times), c.in_err-rejoin.ensures.none.1))

pub returns-in_err-introduce-clause-refused : goal.returns-in_err-introduce-clause-refused
returns-in_err-introduce-clause-refused c =
    let t = table_view c.args.table.now in
    let rejoin = c.in_ok-rejoin in
    let to_random_key = AreTaken-push t (keys_before keys.RandomKey) keys.RandomKey c.in_ok-settings.ensures.taken (c.in_ok-random_key.random_key, c.in_ok-random_key.ensures.bytes) in
    let to_join = AreTaken-push t (keys_before keys.Join) keys.Join to_random_key (c.in_ok-join.join.items, c.in_ok-join.ensures.places) in
    let taken = AreTaken-push t (keys_before keys.Rejoin) keys.Rejoin to_join (c.of-times.result, rejoin.rejoin, (c.in_ok-preset.preset, c.in_ok-preset.ensures.word, c.of-times.ensures.times), (rejoin.ensures.number, rejoin.ensures.range.0, rejoin.ensures.range.1)) in
    let fault = err_from_is_err_and c.from_residual-in_err-introduce.result c.from_residual-in_err-introduce.ensures.1 in
    rw (fault.1, fault.2, c.in_err-introduce.ensures.none.0) (taken, c.in_err-introduce.ensures.none.1)

pub returns-in_err-ends_expelled-clause-refused : goal.returns-in_err-ends_expelled-clause-refused
returns-in_err-ends_expelled-clause-refused c =
    let t = table_view c.args.table.now in
    let rejoin = c.in_ok-rejoin in
    let to_random_key = AreTaken-push t (keys_before keys.RandomKey) keys.RandomKey c.in_ok-settings.ensures.taken (c.in_ok-random_key.random_key, c.in_ok-random_key.ensures.bytes) in
    let to_join = AreTaken-push t (keys_before keys.Join) keys.Join to_random_key (c.in_ok-join.join.items, c.in_ok-join.ensures.places) in
    let introduce = c.in_ok-introduce in
    let to_rejoin = AreTaken-push t (keys_before keys.Rejoin) keys.Rejoin to_join (c.of-times.result, rejoin.rejoin, (c.in_ok-preset.preset, c.in_ok-preset.ensures.word, c.of-times.ensures.times), (rejoin.ensures.number, rejoin.ensures.range.0, rejoin.ensures.range.1)) in
    let taken = AreTaken-push t (keys_before keys.Introduce) keys.Introduce to_rejoin (introduce.introduce, (introduce.ensures.number, introduce.ensures.range.0, introduce.ensures.range.1)) in
    let fault = err_from_is_err_and c.from_residual-in_err-ends_expelled.result c.from_residual-in_err-ends_expelled.ensures.1 in
    rw (fault.1, fault.2, c.in_err-ends_expelled.ensures.none.0) (taken, c.in_err-ends_expelled.ensures.none.1)

pub read_recording-requires : goal.read_recording-requires
read_recording-requires c =
    let t = table_view c.args.table.now in
    let rejoin = c.in_ok-rejoin in
    let introduce = c.in_ok-introduce in
    let ends = c.in_ok-ends_expelled in
    let to_random_key = AreTaken-push t (keys_before keys.RandomKey) keys.RandomKey c.in_ok-settings.ensures.taken (c.in_ok-random_key.random_key, c.in_ok-random_key.ensures.bytes) in
    let to_join = AreTaken-push t (keys_before keys.Join) keys.Join to_random_key (c.in_ok-join.join.items, c.in_ok-join.ensures.places) in
    let to_rejoin = AreTaken-push t (keys_before keys.Rejoin) keys.Rejoin to_join (c.of-times.result, rejoin.rejoin, (c.in_ok-preset.preset, c.in_ok-preset.ensures.word, c.of-times.ensures.times), (rejoin.ensures.number, rejoin.ensures.range.0, rejoin.ensures.range.1)) in
    let to_introduce = AreTaken-push t (keys_before keys.Introduce) keys.Introduce to_rejoin (introduce.introduce, (introduce.ensures.number, introduce.ensures.range.0, introduce.ensures.range.1)) in
    AreTaken-push t (keys_before keys.Expelled) keys.Expelled to_introduce (ends.ends_expelled, ends.ensures.choice)

pub returns-in_err-log-clause-refused : goal.returns-in_err-log-clause-refused
returns-in_err-log-clause-refused c =
    let fault = err_from_is_err_and c.from_residual-in_err-log.result c.from_residual-in_err-log.ensures.1 in
    rw (fault.1, fault.2, c.in_err-log.ensures.none.0) (c.in_ok-record_folder.ensures.taken, c.in_err-log.ensures.none.1)

pub returns-clause-said : goal.returns-clause-said
returns-clause-said c =
    let member = c.in_ok-member.ensures.said in
    record {
      file = search (rules, c.in_ok-file.ensures, c.in_ok-from_str.ensures);
      group = search (rules, c.in_ok-group.ensures, c.in_ok-member.ensures.owner);
      me = search (rules, c.in_ok-me.ensures, c.in_ok-member.ensures.owner);
      control = c.in_ok-control.ensures.place.0;
      preset = c.in_ok-preset.ensures.word;
      tick_ms = rw (← c.of-times.ensures.times) c.in_ok-tick_ms.ensures.number;
      member = rw (c.in_ok-settings.ensures.rest, ← c.of-times.ensures.times) record {
        lambda = member.lambda;
        period = member.period;
        direct = member.direct;
        suspect = member.suspect;
        forget = member.forget;
        helpers = member.helpers;
      };
      limit = c.in_ok-limit.ensures.number;
      block = c.in_ok-settings.ensures.block;
      rules = c.in_ok-settings.ensures.rules;
      has_rules = c.has_key.ensures;
      random_key = c.in_ok-random_key.ensures.bytes;
      join = c.in_ok-join.ensures.places;
      rejoin = rw (← c.of-times.ensures.times) c.in_ok-rejoin.ensures.number;
      introduce = c.in_ok-introduce.ensures.number;
      expelled = c.in_ok-ends_expelled.ensures.choice;
      record_folder = c.in_ok-record_folder.ensures.folder;
      record_eras = c.in_ok-record_folder.ensures.eras;
      log = c.in_ok-log.ensures.word;
    }
