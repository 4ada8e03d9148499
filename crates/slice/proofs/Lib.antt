-- Laws of looking at code.
mod Spelling
mod Walks
