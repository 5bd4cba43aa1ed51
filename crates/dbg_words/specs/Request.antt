-- What a request says to contracts.
use Rattle.dbg_words.specs.Words.{Asked, session, generated, checked}
use Rattle.dbg_words.specs.declared.request.Request.{Request}
use Rattle.dbg_words.specs.declared.request.Request.TheVariants as request

abbrev pub asked : Request → Asked
asked (request.Session file settings log) = session file.now settings log
asked (request.Generated number settings) = generated number settings
asked (request.Check file) = checked file.now
