mod Apart
mod Judged
mod Numbers
