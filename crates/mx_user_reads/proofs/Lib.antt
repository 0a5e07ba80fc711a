mod Numbers
mod Walk
