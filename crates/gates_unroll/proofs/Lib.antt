mod Folds
mod Growing
mod Keeping
mod Later
mod Reading
